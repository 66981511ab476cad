-- A head unifies with a term, where its variables are new.
use Rattle.std.proofs.Common.{◌≡◌, ◌+◌, ◌≤◌, ℕ, Bool, true, false, Option, Some, None, is_some, refl, ap, ap₂, ◌∙◌, arith, MatchBool}
use Rattle.iso_model.specs.Terms.Trees.{Tree, Variable}
use Rattle.iso_model.specs.Terms.Substitutions.{Subst, apply, compose}
use Rattle.iso_model.specs.Terms.Copies.{renamed}
use Rattle.iso_model.specs.Terms.Unifiers.{Unifier, NeverEqual, IsUnifierOf}
use Rattle.iso_model.specs.Terms.Unification.{unifier_of, unifier_of_is}
use Rattle.iso_model.specs.Terms.Unification.Applied.{apply_apply, apply_same}
use Rattle.iso_store_core.specs.Presents.{Present, meaning, KeepsWords, Makes, IsUnification}
use Rattle.iso_program.proofs.WordLemmas.{words_on}

-- what an answer says of two terms
abbrev Answers : Bool → Tree → Tree → Type 0
Answers answer a b = MatchBool answer ((u : Subst) × Unifier a b u) (NeverEqual a b)

answer_is : (a b : Tree) (answer : Bool) → Answers answer a b → answer ≡ is_some (unifier_of a b)
answer_is a b answer h = by_found (unifier_of a b) (unifier_of_is a b) answer h where
  by_found : (o : Option Subst) → IsUnifierOf a b o → (x : Bool) → Answers x a b → x ≡ is_some o
  by_found None never true h = absurd (never h.0 h.1.equal)
  by_found None never false h = refl
  by_found (Some u) is true h = refl
  by_found (Some u) is false h = absurd (h u is.equal)

-- new variables stand for themselves
renamed_alone : (s : Subst) (first : ℕ) (t : Tree) → ((n : ℕ) → first ≤ n → s n ≡ Variable n) → apply s (renamed first t) ≡ renamed first t
renamed_alone s first t alone =
    apply_apply (λ x. Variable (first + x)) s t
    ∙ apply_same (compose (λ x. Variable (first + x)) s) (λ x. Variable (first + x)) t (λ x o. alone (first + x) (omega arith))

-- where no binding came
same_meaning : {W : Type 0} {p r : Present W} {call : W} → KeepsWords p r → r.substitution ≡ p.substitution → p.holds call ≡ true → meaning r call ≡ meaning p call
same_meaning {p = p} {r = r} {call = call} words same held = ap (λ (u : Subst). apply u (r.term call)) same ∙ ap (apply p.substitution) (words.terms call held)

-- what unifying a goal with the head says of the two, where the head was made with numbers that no variable has
module _ {W : Type 0} (p r q v : Present W) (call shown : W) (t : Tree) (held : p.holds call ≡ true) (words : KeepsWords p r) (same : r.substitution ≡ p.substitution) (alone : (n : ℕ) → r.next ≤ n → r.substitution n ≡ Variable n)
    (made : Makes r q shown (renamed r.next t)) where
  call_is : meaning q call ≡ meaning p call
  call_is = same_meaning (words_on words made.words) (made.substitution ∙ same) held

  head_is : meaning q shown ≡ renamed r.next t
  head_is = ap₂ apply made.substitution made.term ∙ renamed_alone r.substitution r.next t alone

  pub unified_answer : (answer : Bool) → IsUnification q v (meaning q call) (meaning q shown) answer → answer ≡ is_some (unifier_of (meaning p call) (renamed r.next t))
  unified_answer true h = answer_is (meaning p call) (renamed r.next t) true (h.0, rw (call_is, head_is) at h.1)
  unified_answer false h = answer_is (meaning p call) (renamed r.next t) false (rw (call_is, head_is) at h)
