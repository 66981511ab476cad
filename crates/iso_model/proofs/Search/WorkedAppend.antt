-- The worked run of `app(X, Y, c(1, nil))`, step by step.
use Rattle.std.proofs.Common.{◌≡◌, ◌≢◌, ◌<◌, ℕ, suc, [], ◌∷◌, false, refl, ap, codes, arith}
use Rattle.iso_model.specs.Terms.Trees.{Tree, Variable, Name, End}
use Rattle.iso_model.specs.Terms.Variables.{occurs}
use Rattle.iso_model.specs.Terms.Substitutions.{Subst, compose, single}
use Rattle.iso_model.specs.Terms.Unifiers.{Unifier, NeverEqual}
use Rattle.iso_model.specs.Terms.Unification.Composed.{unifier_same, unifier_sym, unifier_apply, unifier_bound, unifier_more}
use Rattle.iso_model.specs.Search.Bodies.{Run}
use Rattle.iso_model.specs.Search.Databases.{Clause}
use Rattle.iso_model.specs.Search.Walker.{State, Goes, NoMore, step, started}
use Rattle.iso_model.specs.Search.Runs.{goes, gives, ends}
use Rattle.iso_model.specs.Search.Runs as runs
use Rattle.iso_model.specs.Worked.Runs.{number, nil, cons, app, append, answers, AppendSplits}
use Rattle.std.proofs.lemmas.Bool.{ne_eqb}
use Rattle.iso_model.proofs.Search.CallLemmas.{found, retry, tried_found, tried_missed}

abbrev base : Clause
base = record { number = 0; head = app nil (Variable 0) (Variable 0); body = Run (Name (codes "true")); variables = 1 }

abbrev longer : Clause
longer = record {
  number = 1;
  head = app (cons (Variable 0) (Variable 1)) (Variable 2) (cons (Variable 0) (Variable 3));
  body = Run (app (Variable 1) (Variable 2) (Variable 3));
  variables = 4;
}

-- a variable and a term without variables
bound_to : (x : ℕ) (r : Tree) → occurs x r ≡ false → ((m : ℕ) → r ≢ Variable m) → Unifier (Variable x) r (single x r)
bound_to x r absent other = unifier_bound x r absent (λ m e. absurd (other m e))

-- a variable and a younger one
older : (x y : ℕ) → x < y → Unifier (Variable x) (Variable y) (single y (Variable x))
older x y less = unifier_sym (unifier_bound y (Variable x) (ne_eqb x y (λ e. absurd (omega arith))) (λ m e. (let k : x ≡ m = cc in omega arith)))

abbrev query : Tree
query = app (Variable 0) (Variable 1) (cons (number 1) nil)

abbrev at_once : Subst
at_once = compose (single 0 nil) (compose (single 2 (Variable 1)) (compose (single 1 (cons (number 1) nil)) Variable))

at_once_unifier : Unifier query (app nil (Variable 2) (Variable 2)) at_once
at_once_unifier =
    unifier_apply (codes "app")
    (unifier_more (bound_to 0 nil refl (λ m e. cc))
    (unifier_more (older 1 2 (omega arith))
    (unifier_more (unifier_sym (bound_to 1 (cons (number 1) nil) refl (λ m e. cc))) (unifier_same End))))

abbrev in_turn : Subst
in_turn = compose (single 0 (cons (Variable 2) (Variable 3)))
    (compose (single 4 (Variable 1))
    (compose (compose (single 2 (number 1)) (compose (single 5 nil) Variable)) Variable))

in_turn_unifier : Unifier query (app (cons (Variable 2) (Variable 3)) (Variable 4) (cons (Variable 2) (Variable 5))) in_turn
in_turn_unifier =
    unifier_apply (codes "app")
    (unifier_more (bound_to 0 (cons (Variable 2) (Variable 3)) refl (λ m e. cc))
    (unifier_more (older 1 4 (omega arith))
    (unifier_more
    (unifier_apply (codes "c") (unifier_more (unifier_sym (bound_to 2 (number 1) refl (λ m e. cc))) (unifier_more (unifier_sym (bound_to 5 nil refl (λ m e. cc))) (unifier_same End))))
    (unifier_same End))))

-- the value of the body's goal
abbrev goal : Tree
goal = app (Variable 3) (Variable 1) nil

abbrev then_nil : Subst
then_nil = compose (single 3 nil) (compose (single 6 (Variable 1)) (compose (single 1 nil) Variable))

then_nil_unifier : Unifier (app (Variable 3) (Variable 1) nil) (app nil (Variable 6) (Variable 6)) then_nil
then_nil_unifier =
    unifier_apply (codes "app")
    (unifier_more (bound_to 3 nil refl (λ m e. cc))
    (unifier_more (older 1 6 (omega arith))
    (unifier_more (unifier_sym (bound_to 1 nil refl (λ m e. cc))) (unifier_same End))))

never_longer : NeverEqual (app (Variable 3) (Variable 1) nil) (app (cons (Variable 6) (Variable 7)) (Variable 8) (cons (Variable 6) (Variable 9)))
never_longer t e = cc

module _ (n : ℕ) where
  abbrev first : State
  first = started query (suc (suc n)) append

  abbrev first_answer : State
  first_answer = record (found query base (longer ∷ []) [] first at_once) { steps = suc n }

  abbrev inside : State
  inside = found query longer [] [] (retry first_answer) in_turn

  abbrev second_answer : State
  second_answer = record (found goal base (longer ∷ []) [] inside then_nil) { steps = n }

  second_run : runs.Run second_answer (answers ((cons (number 1) nil ∷ nil ∷ []) ∷ []) NoMore append)
  unfolding step
  second_run = gives refl (goes (ap Goes (tried_missed goal longer [] [] (retry second_answer) never_longer)) (ends refl))

  inside_run : runs.Run inside (answers ((cons (number 1) nil ∷ nil ∷ []) ∷ []) NoMore append)
  unfolding step
  inside_run = goes (ap (λ s. Goes (record s { steps = n })) (tried_found goal base (longer ∷ []) [] inside then_nil then_nil_unifier)) second_run

  first_run : runs.Run first_answer (answers ((nil ∷ cons (number 1) nil ∷ []) ∷ (cons (number 1) nil ∷ nil ∷ []) ∷ []) NoMore append)
  unfolding step
  first_run = gives refl (goes (ap Goes (tried_found query longer [] [] (retry first_answer) in_turn in_turn_unifier)) inside_run)

  append_from : runs.Run first (answers ((nil ∷ cons (number 1) nil ∷ []) ∷ (cons (number 1) nil ∷ nil ∷ []) ∷ []) NoMore append)
  unfolding step
  append_from =
      goes (ap (λ s. Goes (record s { steps = suc n })) (tried_found query base (longer ∷ []) [] first at_once at_once_unifier)) first_run

pub append_run : AppendSplits
append_run = append_from
