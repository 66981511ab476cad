-- The worked run of `r(X)` over `p(1). p(2). q(2). r(X) :- p(X), q(X).`, step by step.
use Rattle.std.proofs.Common.{◌≡◌, ℕ, suc, [], ◌∷◌, refl, ap, codes, arith}
use Rattle.iso_model.specs.Terms.Trees.{Tree, Variable, Name, End}
use Rattle.iso_model.specs.Terms.Substitutions.{Subst, compose, single}
use Rattle.iso_model.specs.Terms.Unifiers.{Unifier, NeverEqual}
use Rattle.iso_model.specs.Terms.Unification.Composed.{unifier_same, unifier_sym, unifier_apply, unifier_bound, unifier_more}
use Rattle.iso_model.specs.Search.Bodies.{Run, And, one}
use Rattle.iso_model.specs.Search.Databases.{Clause}
use Rattle.iso_model.specs.Search.Walker.{State, Goal, Goes, NoMore, step, started}
use Rattle.iso_model.specs.Search.Runs.{goes, gives, ends}
use Rattle.iso_model.specs.Search.Runs as runs
use Rattle.iso_model.specs.Worked.Runs.{number, joined, answers, JoinIsSearched}
use Rattle.iso_model.proofs.Search.CallLemmas.{found, missed, retry, tried_found, tried_missed}

abbrev p_of : Tree → Tree
p_of t = one (codes "p") t

abbrev q_of : Tree → Tree
q_of t = one (codes "q") t

abbrev r_of : Tree → Tree
r_of t = one (codes "r") t

abbrev fact : ℕ → Tree → Clause
fact n head = record { number = n; head = head; body = Run (Name (codes "true")); variables = 0 }

abbrev join : Clause
join = record { number = 3; head = r_of (Variable 0); body = And (Run (p_of (Variable 0))) (Run (q_of (Variable 0))); variables = 1 }

abbrev younger : Subst
younger = compose (single 1 (Variable 0)) Variable

younger_unifier : Unifier (r_of (Variable 0)) (r_of (Variable 1)) younger
younger_unifier =
    unifier_apply (codes "r")
    (unifier_more (unifier_sym (unifier_bound 1 (Variable 0) refl (λ m e. (let k : 0 ≡ m = cc in omega arith)))) (unifier_same End))

abbrev binds : ℕ → Subst
binds k = compose (single 0 (number k)) Variable

fact_unifier : (k : ℕ) → Unifier (p_of (Variable 0)) (p_of (number k)) (binds k)
fact_unifier k = unifier_apply (codes "p") (unifier_more (unifier_bound 0 (number k) refl (λ m e. cc)) (unifier_same End))

never_two : NeverEqual (q_of (number 1)) (q_of (number 2))
never_two t e = cc

module _ (n : ℕ) where
  abbrev first : State
  first = started (r_of (Variable 0)) (suc (suc (suc (suc n)))) joined

  abbrev within : State
  within = record (found (r_of (Variable 0)) join [] [] first younger) { steps = suc (suc (suc n)) }

  abbrev both : State
  both = record within { list = Goal (Run (p_of (Variable 1))) 0 ∷ Goal (Run (q_of (Variable 1))) 0 ∷ [] }

  abbrev with_one : State
  with_one = record (found (p_of (Variable 0)) (fact 0 (p_of (number 1))) (fact 1 (p_of (number 2)) ∷ []) (Goal (Run (q_of (Variable 1))) 0 ∷ []) both (binds 1)) { steps = suc (suc n) }

  abbrev failed : State
  failed = record (missed (q_of (number 1)) (fact 2 (q_of (number 2))) [] [] with_one) { steps = suc n }

  abbrev with_two : State
  with_two = found (p_of (Variable 0)) (fact 1 (p_of (number 2))) [] (Goal (Run (q_of (Variable 1))) 0 ∷ []) (retry failed) (binds 2)

  abbrev solved : State
  solved = record (found (q_of (number 2)) (fact 2 (q_of (number 2))) [] [] with_two Variable) { steps = n }

  two_run : runs.Run with_two (answers ((number 2 ∷ []) ∷ []) NoMore joined)
  unfolding step
  two_run =
      goes (ap (λ s. Goes (record s { steps = n })) (tried_found (q_of (number 2)) (fact 2 (q_of (number 2))) [] [] with_two Variable (unifier_same (q_of (number 2)))))
      (gives refl (ends refl))

  failed_run : runs.Run failed (answers ((number 2 ∷ []) ∷ []) NoMore joined)
  unfolding step
  failed_run = goes (ap Goes (tried_found (p_of (Variable 0)) (fact 1 (p_of (number 2))) [] (Goal (Run (q_of (Variable 1))) 0 ∷ []) (retry failed) (binds 2) (fact_unifier 2))) two_run

  one_run : runs.Run with_one (answers ((number 2 ∷ []) ∷ []) NoMore joined)
  unfolding step
  one_run = goes (ap (λ s. Goes (record s { steps = suc n })) (tried_missed (q_of (number 1)) (fact 2 (q_of (number 2))) [] [] with_one never_two)) failed_run

  both_run : runs.Run both (answers ((number 2 ∷ []) ∷ []) NoMore joined)
  unfolding step
  both_run =
      goes
      (ap (λ s. Goes (record s { steps = suc (suc n) })) (tried_found (p_of (Variable 0)) (fact 0 (p_of (number 1))) (fact 1 (p_of (number 2)) ∷ []) (Goal (Run (q_of (Variable 1))) 0 ∷ []) both (binds 1) (fact_unifier 1)))
      one_run

  join_from : runs.Run first (answers ((number 2 ∷ []) ∷ []) NoMore joined)
  unfolding step
  join_from =
      goes (ap (λ s. Goes (record s { steps = suc (suc (suc n)) })) (tried_found (r_of (Variable 0)) join [] [] first younger younger_unifier))
      (goes refl both_run)

pub join_run : JoinIsSearched
join_run = join_from
