-- The worked runs, step by step.
use Rattle.std.proofs.Common.{◌≡◌, ℕ, zero, suc, ◌+◌, [], ◌∷◌, refl, sym, ap, ◌∙◌, codes}
use Rattle.iso_model.specs.Terms.Trees.{Tree, Variable, Name, Apply, End, More}
use Rattle.iso_model.specs.Terms.Substitutions.{Subst, compose, single}
use Rattle.iso_model.specs.Terms.Unifiers.{Unifier, NeverEqual}
use Rattle.iso_model.specs.Terms.Unification.Applied.{never_inside}
use Rattle.iso_model.specs.Terms.Unification.Composed.{unifier_same, unifier_apply, unifier_bound, unifier_more}
use Rattle.iso_model.specs.Search.Bodies.{Run, one, two}
use Rattle.iso_model.specs.Search.Databases.{Clause}
use Rattle.iso_model.specs.Search.Walker.{State, Goal, Budget, Goes, NoMore, charged, step, asked, started}
use Rattle.iso_model.specs.Search.Runs.{goes, gives, ends}
use Rattle.iso_model.specs.Search.Runs as runs
use Rattle.iso_model.specs.Worked.Runs.{endless, EndlessUsesItsBudget, number, facts, answers, FactsAreAnswered, equal, NothingHoldsItself, EquationsAreChecked, empty, UnknownIsAnError, NumbersAreNoGoals, EachGoalTakesAStep}
use Rattle.iso_model.proofs.Search.CallLemmas.{found, retry, tried_found, tried_missed, run_equation_missed}

abbrev loop_clause : Clause
loop_clause = record { number = 0; head = Name (codes "l"); body = Run (Name (codes "l")); variables = 0 }

-- the endless program's only goal, whatever was made before
abbrev loop_state : ℕ → ℕ → ℕ → Subst → State
loop_state budget next built r =
    record { list = Goal (Run (Name (codes "l"))) 0 ∷ []; subst = r; next = next; built = built; query = Name (codes "l"); stack = []; world = asked endless; steps = budget }

goes_round : (budget next built : ℕ) (r : Subst) → runs.Run (loop_state budget next built r) (answers [] Budget endless)
unfolding step
goes_round zero next built r = ends refl
goes_round (suc n) next built r =
    goes (ap (λ s. Goes (record s { steps = n })) (tried_found (Name (codes "l")) loop_clause [] [] (loop_state (suc n) next built r) Variable (unifier_same (Name (codes "l")))))
    (goes_round n (next + 0) (built + 0) (compose r Variable))

pub endless_run : EndlessUsesItsBudget
endless_run budget = goes_round budget 0 0 Variable

abbrev fact : ℕ → Tree → Clause
fact n head = record { number = n; head = head; body = Run (Name (codes "true")); variables = 0 }

abbrev p_of : Tree → Tree
p_of t = one (codes "p") t

abbrev binds : ℕ → Subst
binds k = compose (single 0 (number k)) Variable

fact_unifier : (k : ℕ) → Unifier (p_of (Variable 0)) (p_of (number k)) (binds k)
fact_unifier k = unifier_apply (codes "p") (unifier_more (unifier_bound 0 (number k) refl (λ m e. cc)) (unifier_same End))

module _ (n : ℕ) where
  abbrev first : State
  first = started (p_of (Variable 0)) (suc n) facts

  abbrev one_found : State
  one_found = record (found (p_of (Variable 0)) (fact 0 (p_of (number 1))) (fact 1 (p_of (number 2)) ∷ fact 2 (p_of (number 1)) ∷ []) [] first (binds 1)) { steps = n }

  abbrev two_found : State
  two_found = found (p_of (Variable 0)) (fact 1 (p_of (number 2))) (fact 2 (p_of (number 1)) ∷ []) [] (retry one_found) (binds 2)

  abbrev three_found : State
  three_found = found (p_of (Variable 0)) (fact 2 (p_of (number 1))) [] [] (retry two_found) (binds 1)

  three_run : runs.Run three_found (answers ((number 1 ∷ []) ∷ []) NoMore facts)
  unfolding step
  three_run = gives refl (ends refl)

  two_run : runs.Run two_found (answers ((number 2 ∷ []) ∷ (number 1 ∷ []) ∷ []) NoMore facts)
  unfolding step
  two_run =
      gives refl
      (goes (ap Goes (tried_found (p_of (Variable 0)) (fact 2 (p_of (number 1))) [] [] (retry two_found) (binds 1) (fact_unifier 1))) three_run)

  one_run : runs.Run one_found (answers ((number 1 ∷ []) ∷ (number 2 ∷ []) ∷ (number 1 ∷ []) ∷ []) NoMore facts)
  unfolding step
  one_run =
      gives refl
      (goes (ap Goes (tried_found (p_of (Variable 0)) (fact 1 (p_of (number 2))) (fact 2 (p_of (number 1)) ∷ []) [] (retry one_found) (binds 2) (fact_unifier 2))) two_run)

  facts_from : runs.Run first (answers ((number 1 ∷ []) ∷ (number 2 ∷ []) ∷ (number 1 ∷ []) ∷ []) NoMore facts)
  unfolding step
  facts_from =
      goes
      (ap (λ s. Goes (record s { steps = n })) (tried_found (p_of (Variable 0)) (fact 0 (p_of (number 1))) (fact 1 (p_of (number 2)) ∷ fact 2 (p_of (number 1)) ∷ []) [] first (binds 1) (fact_unifier 1)))
      one_run

pub facts_run : FactsAreAnswered
facts_run = facts_from

abbrev self : Tree
self = two (codes "eq") (Variable 0) (one (codes "f") (Variable 0))

never_self : NeverEqual self (two (codes "eq") (Variable 1) (Variable 1))
never_self t e =
    let first : t 0 ≡ t 1 = cc in
    let second : Apply (codes "f") (More (t 0) End) ≡ t 1 = cc in
    never_inside t 0 (one (codes "f") (Variable 0)) refl (λ h. cc) (first ∙ sym second)

pub equal_run : NothingHoldsItself
unfolding step
equal_run n =
    let clause : Clause = record { number = 0; head = two (codes "eq") (Variable 0) (Variable 0); body = Run (Name (codes "true")); variables = 1 } in
    goes (ap (λ s. Goes (record s { steps = n })) (tried_missed self clause [] [] (started self (suc n) equal) never_self)) (ends refl)

never_within : NeverEqual (Variable 0) (one (codes "f") (Variable 0))
never_within t e = never_inside t 0 (one (codes "f") (Variable 0)) refl (λ h. cc) e

pub equation_run : EquationsAreChecked
unfolding step
equation_run n =
    let goal = two (codes "=") (Variable 0) (one (codes "f") (Variable 0)) in
    goes (ap (charged n) (run_equation_missed 2 (Variable 0) (one (codes "f") (Variable 0)) [] (started goal (suc n) empty) never_within)) (ends refl)

pub unknown_run : UnknownIsAnError
unfolding step
unknown_run n = goes refl (ends refl)

pub number_run : NumbersAreNoGoals
unfolding step
number_run n = ends refl

pub steps_run : EachGoalTakesAStep
unfolding step
steps_run = (λ n. goes refl (goes refl (goes refl (ends refl))), goes refl (goes refl (ends refl)))
