-- A clause is made as a term, and its two arguments are unified with a head and a body, one after the other.
use Rattle.std.proofs.Common.{◌≡◌, ℕ, ◌+◌, ◌<◌, [], ◌∷◌, true, false, Bool, Result, Ok, Err, IfOk, sym, ap, ap₂, ◌∙◌, subst, arith}
use Rattle.iso_model.specs.Terms.Trees.{Tree, Variable, More, End, row}
use Rattle.iso_store_core.specs.Arguments.{arity, argument}
use Rattle.iso_model.specs.Terms.Substitutions.{Subst, apply, compose}
use Rattle.iso_model.specs.Terms.Unifiers.{Unifier, NeverEqual}
use Rattle.iso_model.specs.Terms.Copies.{renamed}
use Rattle.iso_model.specs.Terms.Unification.Applied.{apply_apply, apply_none}
use Rattle.iso_model.specs.Terms.Unification.Composed.{unifier_more, unifier_same, never_first, never_rest}
use Rattle.iso_model.specs.Search.RunLaws.Sameness.{IsTwice}
use Rattle.iso_model.proofs.Search.RunLaws.TermValues.{value_is, twice_on}
use Rattle.iso_model.specs.Search.Bodies.{body_term}
use Rattle.iso_model.specs.Search.Databases.{Clause}
use Rattle.iso_model.specs.Search.Storages.{clause_row}
use Rattle.iso_store_core.specs.Presents.{Present, Holds, meaning, Makes, Binds, IsUnification}
use Rattle.iso_program.specs.Values.{HasValues}
use Rattle.iso_program.specs.Kept.{clause_term}
use Rattle.iso_program.proofs.WordLemmas.{words_on}
use Rattle.iso_storage.specs.Shown.{UnifiesClause}

-- ---- rows of two

unifier_last : {a b : Tree} {s : Subst} → Unifier a b s → Unifier (More a End) (More b End) s
unifier_last {a} {b} {s} h =
    let none : compose s Variable ≡ s = λ i. λ n. apply_none (s n) i in
    subst (λ (x : Subst). Unifier (More a End) (More b End) x) none (unifier_more {c = End} {d = End} h (unifier_same End))

-- a word that stood has its value under the bindings that came
bound_value : {W : Type 0} {p q : Present W} {x : Subst} (w : W) → Binds p q x → Holds p w → meaning q w ≡ apply x (meaning p w)
bound_value {p = p} {x = x} w binds held = ap₂ apply binds.substitution (binds.words.terms w held) ∙ sym (apply_apply p.substitution x (p.term w))

-- the clause was made where the store was as it is here
pub made_here : {W : Type 0} {p q r : Present W} {shown : W} (c : Clause) → q ≡ p → Makes q r shown (renamed q.next (clause_term c)) → Makes p r shown (renamed p.next (clause_term c))
made_here {r = r} {shown = shown} c same made = subst (λ (q : Present _). Makes q r shown (renamed q.next (clause_term c))) same made

pub two_arguments : {W : Type 0} {p r : Present W} {shown : W} (i : ℕ) (c : Clause) → Makes p r shown (renamed p.next (clause_term c)) → i < 2 → i < arity (meaning r shown)
two_arguments {p = p} {r = r} i c made few = let two = ap arity (ap₂ apply made.substitution made.term) in omega (arith, two, few)

module _ {W : Type 0} (p r : Present W) (head body shown : W) (c : Clause) (made : Makes p r shown (renamed p.next (clause_term c))) (own : IsTwice p.substitution) (held_head : Holds p head) (held_body : Holds p body)
    (first : W) (is_first : meaning r first ≡ argument 0 (meaning r shown)) where
  abbrev clause_head : Tree
  clause_head = apply p.substitution (renamed p.next c.head)

  abbrev clause_body : Tree
  clause_body = apply p.substitution (renamed p.next (body_term c.body))

  -- a word that stood stands for what it stood for
  still : (w : W) → Holds p w → meaning r w ≡ meaning p w
  still w held = ap₂ apply made.substitution (made.words.terms w held)

  whole : meaning r shown ≡ apply p.substitution (renamed p.next (clause_term c))
  whole = ap₂ apply made.substitution made.term

  head_is : meaning r first ≡ clause_head
  head_is = is_first ∙ ap (argument 0) whole

  -- heads that are never equal
  pub heads_apart : NeverEqual (meaning r head) (meaning r first) → NeverEqual (row (meaning p head ∷ meaning p body ∷ [])) (apply p.substitution (renamed p.next (clause_row c)))
  heads_apart h = never_first (meaning p head) clause_head (More (meaning p body) End) (More clause_body End) (rw (still head held_head, head_is) at h)

  -- bodies, once the heads were unified
  module _ (second : W) (held_second : Holds r second) (is_second : meaning r second ≡ argument 1 (meaning r shown)) (next : r.next ≡ p.next + c.variables) (s v : Present W) (x : Subst)
      (unifies : Unifier (meaning r head) (meaning r first) x) (binds : Binds r s x) where
    body_is : meaning r second ≡ clause_body
    body_is = is_second ∙ ap (argument 1) whole

    heads : Unifier (meaning p head) clause_head x
    heads = rw (still head held_head, head_is) at unifies

    left : meaning s body ≡ apply x (meaning p body)
    left = bound_value body binds (made.words.stand body held_body) ∙ ap (apply x) (still body held_body)

    right : meaning s second ≡ apply x clause_body
    right = bound_value second binds held_second ∙ ap (apply x) body_is

    renewed : IsTwice r.substitution
    renewed = subst IsTwice (sym made.substitution) own

    twice : IsTwice s.substitution
    twice = subst IsTwice (sym binds.substitution) (twice_on r.substitution x (meaning r head) (meaning r first) renewed (value_is r.substitution (r.term head) renewed) (value_is r.substitution (r.term first) renewed) unifies)

    bindings : (y : Subst) → Binds s v y → (k : ℕ) → v.substitution k ≡ apply (compose x y) (p.substitution k)
    bindings y more k =
        ap (λ (z : Subst). z k) more.substitution ∙ ap (λ (z : Subst). apply y (z k)) binds.substitution ∙ ap (λ (z : Subst). apply y (apply x (z k))) made.substitution
        ∙ apply_apply x y (p.substitution k)

    unified_values : (y : Subst) → Unifier (meaning s body) (meaning s second) y → Binds s v y → HasValues p v (compose p.substitution (compose x y))
    unified_values y is more =
        let both : v.substitution ≡ compose p.substitution (compose x y) = λ i. λ k. bindings y more k i in
        record {
          words = words_on made.words (words_on binds.words more.words);
          means = λ w h.
              let there = made.words.stand w h in
              let here = binds.words.stand w there in
              ap₂ apply both (more.words.terms w here ∙ binds.words.terms w there ∙ made.words.terms w h);
          beyond = λ k above. ap (λ (z : Subst). z k) both;
          twice = subst IsTwice (sym more.substitution) (twice_on s.substitution y (meaning s body) (meaning s second) twice (value_is s.substitution (s.term body) twice) (value_is s.substitution (s.term second) twice) is);
        }

    by_answer : (a : Bool) → IsUnification s v (meaning s body) (meaning s second) a → UnifiesClause p v (meaning p head) (meaning p body) c a
    by_answer true h = record {
      unifier = compose x h.0;
      is = unifier_more heads (unifier_last (rw (left, right) at h.1));
      values = unified_values h.0 h.1 h.2;
      next = h.2.numbers.next ∙ binds.numbers.next ∙ next;
    }
    by_answer false h =
        never_rest (More (meaning p body) End) (More clause_body End) heads (never_first (apply x (meaning p body)) (apply x clause_body) End End (rw (left, right) at h))

    pub bodies_unified : {E : Type 0} (a : Result Bool E) → IfOk a (IsUnification s v (meaning s body) (meaning s second)) → IfOk a (UnifiesClause p v (meaning p head) (meaning p body) c)
    bodies_unified (Err e) h = tt
    bodies_unified (Ok answer) h = by_answer answer h
