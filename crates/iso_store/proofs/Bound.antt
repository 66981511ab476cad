-- Bindings that come one after another.
use Rattle.std.proofs.Common.{◌≡◌, refl, ap, sym, ◌∙◌, arith}
use Rattle.iso_model.specs.Terms.Trees.{Variable}
use Rattle.iso_model.specs.Terms.Substitutions.{Subst, apply, compose}
use Rattle.iso_model.specs.Terms.Unification.Applied.{apply_apply, apply_none}
use Rattle.iso_model.proofs.OnTerms.UnifierLemmas.{compose_compose}
use Rattle.iso_store_core.specs.Presents.{Present, Holds, meaning, Grows, Binds}

pub binds-none : {W : Type 0} (p : Present W) → Binds p p Variable
binds-none p = record {
  words = record { stand = λ w h. h; terms = λ w h. refl };
  numbers = record { next = refl; taken = λ n. refl };
  substitution = λ i. λ n. sym (apply_none (p.substitution n)) i;
}

pub binds-then : {W : Type 0} {p q u : Present W} {r s : Subst} → Binds p q r → Binds q u s → Binds p u (compose r s)
binds-then {W} {p} {q} {u} {r} {s} first second = record {
  words = record {
    stand = λ w h. second.words.stand w (first.words.stand w h);
    terms = λ w h. second.words.terms w (first.words.stand w h) ∙ first.words.terms w h;
  };
  numbers = record {
    next = second.numbers.next ∙ first.numbers.next;
    taken = λ n. second.numbers.taken n ∙ first.numbers.taken n;
  };
  substitution = second.substitution ∙ ap (λ x. compose x s) first.substitution ∙ compose_compose p.substitution r s;
}

-- what a word stands for once r is bound
pub binds-meaning : {W : Type 0} {p q : Present W} {r : Subst} → Binds p q r → (w : W) → Holds p w → meaning q w ≡ apply r (meaning p w)
binds-meaning {W} {p} {q} {r} h w holds =
    ap (apply q.substitution) (h.words.terms w holds) ∙ ap (λ x. apply x (p.term w)) h.substitution ∙ sym (apply_apply p.substitution r (p.term w))

pub grows-then : {W : Type 0} {p q u : Present W} → Grows p q 0 0 → Grows q u 0 0 → Grows p u 0 0
grows-then first second = record {
  cells = let a = first.cells in let b = second.cells in omega arith;
  variables = let a = first.variables in let b = second.variables in omega arith;
  keeps = let a = first.keeps in let b = second.keeps in omega arith;
  keeps_variables = let a = first.keeps_variables in let b = second.keeps_variables in omega arith;
  limit = second.limit ∙ first.limit;
  within = λ h. second.within (first.within h);
}
