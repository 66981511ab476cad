-- Worked goals of bagof/3, setof/3 and ^/2 (ISO/IEC 13211-1:1995, 8.10.2, 8.10.3): their free variables, the groups of
-- some solutions, and what they check.
use Rattle.std.specs.Prelude.{◌≡◌, ℕ, [], ◌∷◌, codes}
use Rattle.iso_model.specs.Terms.Trees.{Tree, Variable, Name, Apply, End, More}
use Rattle.iso_model.specs.Terms.Lists.{list_of}
use Rattle.iso_model.specs.Search.Bodies.{one, two}
use Rattle.iso_model.specs.Search.Groups.{stripped, free_variables, pair, groups_of, collection}
use Rattle.iso_model.specs.Search.Walker.{NoMore, Budget, Uncaught}
use Rattle.std.specs.Prelude.{true}
use Rattle.iso_model.specs.Worked.Runs.{error, number}
use Rattle.iso_model.specs.Worked.Control.{Answers, yes, cut, true_goal, fail_goal, or_goal, throw_goal}

abbrev pub exists : Tree → Tree → Tree
exists v goal = two (codes "^") v goal

abbrev pub bagof_goal : Tree → Tree → Tree → Tree
bagof_goal template goal result = Apply (codes "bagof") (More template (More goal (More result End)))

abbrev pub setof_goal : Tree → Tree → Tree → Tree
setof_goal template goal result = Apply (codes "setof") (More template (More goal (More result End)))

-- `age(N, A)`
abbrev pub age : Tree
age = two (codes "age") (Variable 0) (Variable 1)

-- `f(A)^N^p(C, B, A, C)`
abbrev pub nested : Tree
nested = exists (one (codes "f") (Variable 1)) (exists (Variable 0) (Apply (codes "p") (More (Variable 2) (More (Variable 4) (More (Variable 1) (More (Variable 2) End))))))

-- With the template N, A is free in `age(N, A)`, and nothing is in `A^age(N, A)`. In `f(A)^N^p(C, B, A, C)` it is C and
-- B with the template D, and C with B.
abbrev pub FreeVariables : Type 0
FreeVariables =
    (free_variables (Variable 0) age ≡ 1 ∷ [])
    × (free_variables (Variable 0) (exists (Variable 1) age) ≡ [])
    × (stripped (exists (Variable 1) age) ≡ age)
    × (free_variables (Variable 3) nested ≡ 2 ∷ 4 ∷ [])
    × (free_variables (Variable 4) nested ≡ 2 ∷ [])

-- a solution with a witness of one term
abbrev pub with_one : Tree → Tree → Tree
with_one w t = pair (list_of (w ∷ [])) t

-- Solutions with the witnesses 7, 11, 7, 5 and 11 come in three groups: those of 7, of 11 and of 5, in this order.
abbrev pub GroupsInOrder : Type 0
GroupsInOrder =
    groups_of (with_one (number 7) (Name (codes "d")) ∷ with_one (number 11) (Name (codes "c")) ∷ with_one (number 7) (Name (codes "a"))
    ∷ with_one (number 5) (Name (codes "b")) ∷ with_one (number 11) (Name (codes "c")) ∷ [])
    ≡ (with_one (number 7) (Name (codes "d")) ∷ with_one (number 7) (Name (codes "a")) ∷ [])
    ∷ (with_one (number 11) (Name (codes "c")) ∷ with_one (number 11) (Name (codes "c")) ∷ [])
    ∷ (with_one (number 5) (Name (codes "b")) ∷ []) ∷ []

-- `f(_, _)`
abbrev pub f : ℕ → ℕ → Tree
f m n = two (codes "f") (Variable m) (Variable n)

-- Witnesses are of one group where they are equal up to a renaming: `X` and `Y`, `f(X, X)` and `f(Y, Y)`, but not
-- `f(X, Y)`.
abbrev pub GroupsOfVariants : Type 0
GroupsOfVariants =
    (groups_of (with_one (Variable 0) (number 1) ∷ with_one (number 2) (number 3) ∷ with_one (Variable 1) (number 4) ∷ [])
    ≡ (with_one (Variable 0) (number 1) ∷ with_one (Variable 1) (number 4) ∷ []) ∷ (with_one (number 2) (number 3) ∷ []) ∷ [])
    × (groups_of (with_one (f 0 0) (number 1) ∷ with_one (f 1 2) (number 2) ∷ with_one (f 3 3) (number 3) ∷ [])
    ≡ (with_one (f 0 0) (number 1) ∷ with_one (f 3 3) (number 3) ∷ []) ∷ (with_one (f 1 2) (number 2) ∷ []) ∷ [])

-- setof/3 has each item once, in the standard order.
abbrev pub SetsAreSorted : Type 0
SetsAreSorted = collection true (number 3 ∷ number 1 ∷ number 3 ∷ Variable 0 ∷ []) ≡ Variable 0 ∷ number 1 ∷ number 3 ∷ []

-- Before any goal runs, `bagof(a, V^G, b)` throws an instantiation error, `bagof(a, V^1, b)` a type error of what is
-- left of the goal, and `setof(a, V^true, b)` one of the result. The goal takes steps of its own. A ball that it throws
-- ends the search. Without a solution there is no group.
abbrev pub GroupsCheck : Type 0
GroupsCheck =
    Answers (bagof_goal (Name (codes "a")) (exists (Variable 0) (Variable 1)) (Name (codes "b"))) 1 []
    (Uncaught (error (Name (codes "instantiation_error")) (codes "bagof") 3))
    × Answers (bagof_goal (Name (codes "a")) (exists (Variable 0) (number 1)) (Name (codes "b"))) 1 []
    (Uncaught (error (two (codes "type_error") (Name (codes "callable")) (number 1)) (codes "bagof") 3))
    × Answers (setof_goal (Name (codes "a")) (exists (Variable 0) true_goal) (Name (codes "b"))) 1 []
    (Uncaught (error (two (codes "type_error") (Name (codes "list")) (Name (codes "b"))) (codes "setof") 3))
    × Answers (setof_goal (Name (codes "a")) true_goal (Variable 0)) 1 [] Budget
    × Answers (bagof_goal (Name (codes "a")) (or_goal fail_goal (throw_goal (Name (codes "b")))) (Variable 0)) 3 [] (Uncaught (Name (codes "b")))
    × Answers (bagof_goal (Name (codes "a")) fail_goal (Name (codes "[]"))) 2 [] NoMore

-- `_^(true ; true)` has two answers, and takes a step; so does `_^ !` beside another goal, since the cut is local. Its
-- errors are those of `call/1`, under its own name.
abbrev pub ExistsRunsItsGoal : Type 0
ExistsRunsItsGoal =
    Answers (exists (Name (codes "a")) (or_goal true_goal true_goal)) 3 (yes ∷ yes ∷ []) NoMore
    × Answers (or_goal (exists (Name (codes "a")) cut) true_goal) 2 (yes ∷ yes ∷ []) NoMore
    × Answers (exists (Name (codes "a")) (number 1)) 1 [] (Uncaught (error (two (codes "type_error") (Name (codes "callable")) (number 1)) (codes "^") 2))
