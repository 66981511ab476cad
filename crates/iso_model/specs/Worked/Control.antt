-- Worked runs of control constructs (ISO/IEC 13211-1:1995, 7.8 and 8.15): what goals without clauses answer by the
-- definitions.
use Rattle.std.specs.Prelude.{ℕ, List, [], ◌∷◌, codes}
use Rattle.iso_model.specs.Terms.Trees.{Tree, Variable, Name, Apply, End, More}
use Rattle.iso_model.specs.Search.Bodies.{one, two}
use Rattle.iso_model.specs.Search.Walker.{Ending, NoMore, Budget, Uncaught, Halted, started}
use Rattle.iso_model.specs.Search.Runs.{Run}
use Rattle.iso_model.specs.Worked.Runs.{answers, empty, error, number}

-- the goal, started with this budget over no clauses, has so many answers, and then this ending
abbrev pub Answers : Tree → ℕ → List (List Tree) → Ending → Type 0
Answers goal budget values ending = Run (started goal budget empty) (answers values ending empty)

abbrev pub yes : List Tree
yes = []

abbrev pub cut : Tree
cut = Name (codes "!")

abbrev pub true_goal : Tree
true_goal = Name (codes "true")

abbrev pub fail_goal : Tree
fail_goal = Name (codes "fail")

abbrev pub then_goal : Tree → Tree → Tree
then_goal c t = two (codes "->") c t

abbrev pub or_goal : Tree → Tree → Tree
or_goal a b = two (codes ";") a b

abbrev pub and_goal : Tree → Tree → Tree
and_goal a b = two (codes ",") a b

-- `true ; true` has two answers, and `(true ; true), !` has one.
abbrev pub CutTakesAlternativesAway : Type 0
CutTakesAlternativesAway =
    Answers (or_goal true_goal true_goal) 2 (yes ∷ yes ∷ []) NoMore
    × Answers (and_goal (or_goal true_goal true_goal) cut) 2 (yes ∷ []) NoMore

-- `call((!, fail)) ; true` has an answer: the cut is local to the call.
abbrev pub CutIsLocalToCall : Type 0
CutIsLocalToCall = Answers (or_goal (one (codes "call") (and_goal cut fail_goal)) true_goal) 3 (yes ∷ []) NoMore

-- `(! , fail) ; true` has none.
abbrev pub CutActsThroughConjunctions : Type 0
CutActsThroughConjunctions = Answers (or_goal (and_goal cut fail_goal) true_goal) 2 [] NoMore

-- `((true -> !) ; true) ; true` has one answer, since a cut acts through a then part; `((! -> true) ; true) ; true`
-- has two, since it is local in a condition.
abbrev pub CutInThenAndCondition : Type 0
CutInThenAndCondition =
    Answers (or_goal (or_goal (then_goal true_goal cut) true_goal) true_goal) 2 (yes ∷ []) NoMore
    × Answers (or_goal (or_goal (then_goal cut true_goal) true_goal) true_goal) 2 (yes ∷ yes ∷ []) NoMore

-- `((true ; true) -> true ; fail)` has one answer, that of the condition's first solution; `(fail -> true ; true)`
-- has that of its else part, and `(fail -> true)` has none.
abbrev pub ConditionsDecideOnce : Type 0
ConditionsDecideOnce =
    Answers (or_goal (then_goal (or_goal true_goal true_goal) true_goal) fail_goal) 2 (yes ∷ []) NoMore
    × Answers (or_goal (then_goal fail_goal true_goal) true_goal) 2 (yes ∷ []) NoMore
    × Answers (then_goal fail_goal true_goal) 1 [] NoMore

-- `\+ fail` takes two steps, and a budget of one ends it; `\+ true` has no answer.
abbrev pub NegationTakesAStep : Type 0
NegationTakesAStep =
    Answers (one (codes "\\+") fail_goal) 2 (yes ∷ []) NoMore
    × Answers (one (codes "\\+") fail_goal) 1 [] Budget
    × Answers (one (codes "\\+") true_goal) 2 [] NoMore

-- `once((true ; true))` has one answer.
abbrev pub OnceIsOnce : Type 0
OnceIsOnce = Answers (one (codes "once") (or_goal true_goal true_goal)) 2 (yes ∷ []) NoMore

-- `repeat` has an answer for each step.
abbrev pub RepeatTakesSteps : Type 0
RepeatTakesSteps = Answers (Name (codes "repeat")) 3 (yes ∷ yes ∷ yes ∷ []) Budget

-- `call((fail, 1))` throws a type error before any goal runs, whose culprit is the whole goal; `call(X)` an
-- instantiation error; `\+ 1` names itself.
abbrev pub GoalsAreChecked : Type 0
GoalsAreChecked =
    Answers (one (codes "call") (and_goal fail_goal (number 1))) 1 []
    (Uncaught (error (two (codes "type_error") (Name (codes "callable")) (and_goal fail_goal (number 1))) (codes "call") 1))
    × Answers (one (codes "call") (Variable 0)) 1 [] (Uncaught (error (Name (codes "instantiation_error")) (codes "call") 1))
    × Answers (one (codes "\\+") (number 1)) 1 [] (Uncaught (error (two (codes "type_error") (Name (codes "callable")) (number 1)) (codes "\\+") 1))

-- `call((fail, 1), a)` calls an unknown procedure `','/3`: the argument is added before anything is converted.
abbrev pub ArgumentsAreAdded : Type 0
ArgumentsAreAdded =
    Answers (two (codes "call") (and_goal fail_goal (number 1)) (Name (codes "a"))) 2 []
    (Uncaught (error (two (codes "existence_error") (Name (codes "procedure")) (two (codes "/") (Name (codes ",")) (number 3))) (codes ",") 3))

abbrev pub catch_goal : Tree → Tree → Tree → Tree
catch_goal goal catcher recovery = Apply (codes "catch") (More goal (More catcher (More recovery End)))

abbrev pub throw_goal : Tree → Tree
throw_goal ball = one (codes "throw") ball

-- `catch((true ; true), a, fail)` has two answers, and so has `catch(!, a, fail) ; true`: a catch keeps its goal's
-- alternatives, and a cut is local to it.
abbrev pub CatchRunsItsGoal : Type 0
CatchRunsItsGoal =
    Answers (catch_goal (or_goal true_goal true_goal) (Name (codes "a")) fail_goal) 3 (yes ∷ yes ∷ []) NoMore
    × Answers (or_goal (catch_goal cut (Name (codes "a")) fail_goal) true_goal) 2 (yes ∷ yes ∷ []) NoMore

-- `throw(a)` ends with the ball `a`; so does `catch(true, a, true), throw(a)`, since that catch was left.
abbrev pub LeftCatchesDontCatch : Type 0
LeftCatchesDontCatch =
    Answers (throw_goal (Name (codes "a"))) 1 [] (Uncaught (Name (codes "a")))
    × Answers (and_goal (catch_goal true_goal (Name (codes "a")) true_goal) (throw_goal (Name (codes "a")))) 3 [] (Uncaught (Name (codes "a")))

abbrev pub findall_goal : Tree → Tree → Tree → Tree
findall_goal template goal result = Apply (codes "findall") (More template (More goal (More result End)))

-- Before any goal runs, `findall(a, G, b)` throws an instantiation error, `findall(a, 1, b)` a type error of the goal,
-- and `findall(a, true, b)` one of the result. The goal takes steps of its own. A ball that it throws ends the search,
-- as `halt` does.
abbrev pub FindallChecks : Type 0
FindallChecks =
    Answers (findall_goal (Name (codes "a")) (Variable 0) (Name (codes "b"))) 1 [] (Uncaught (error (Name (codes "instantiation_error")) (codes "findall") 3))
    × Answers (findall_goal (Name (codes "a")) (number 1) (Name (codes "b"))) 1 []
    (Uncaught (error (two (codes "type_error") (Name (codes "callable")) (number 1)) (codes "findall") 3))
    × Answers (findall_goal (Name (codes "a")) true_goal (Name (codes "b"))) 1 []
    (Uncaught (error (two (codes "type_error") (Name (codes "list")) (Name (codes "b"))) (codes "findall") 3))
    × Answers (findall_goal (Name (codes "a")) true_goal (Variable 0)) 1 [] Budget
    × Answers (findall_goal (Name (codes "a")) (or_goal true_goal (throw_goal (Name (codes "b")))) (Variable 0)) 3 [] (Uncaught (Name (codes "b")))

-- `halt` ends with the status 0, `true, halt(3)` with 3; a status of 256 is out of the domain.
abbrev pub HaltEnds : Type 0
HaltEnds =
    Answers (Name (codes "halt")) 1 [] (Halted 0)
    × Answers (and_goal true_goal (one (codes "halt") (number 3))) 2 [] (Halted 3)
    × Answers (one (codes "halt") (number 256)) 1 [] (Uncaught (error (two (codes "domain_error") (Name (codes "exit_code")) (number 256)) (codes "halt") 1))
