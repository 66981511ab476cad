-- Worked runs: what small programs answer by the definitions.
use Rattle.std.specs.Prelude.{ℕ, suc, List, [], ◌∷◌, pos, codes}
use Rattle.iso_model.specs.Terms.Trees.{Tree, Variable, Integer, Name, Apply, End, More}
use Rattle.iso_model.specs.Search.Bodies.{one, two}
use Rattle.iso_model.specs.Search.Databases.{Database, no_clauses}
use Rattle.iso_model.specs.Search.Additions.{Addition, Adds, Refuses, consulted}
use Rattle.iso_model.specs.Search.Walker.{World, first_world, Answered, Ending, NoMore, Budget, Uncaught, asked, started}
use Rattle.iso_model.specs.Search.Runs.{Trace, Then, Stops, Run}

-- the term with this name and these three arguments
abbrev pub three : List ℕ → Tree → Tree → Tree → Tree
three f t u v = Apply f (More t (More u (More v End)))

-- Head :- Body
abbrev pub rule : Tree → Tree → Tree
rule head body = two (codes ":-") head body

-- a refused clause leaves the database as it was
abbrev pub after : Addition → Database → Database
after (Adds new) old = new
after (Refuses error) old = old

-- these clauses, added in their order
abbrev pub with_clauses : List Tree → Database → Database
with_clauses [] db = db
with_clauses (t ∷ ts) db = with_clauses ts (after (consulted t db) db)

-- only these clauses
abbrev pub program : List Tree → World
program ts = record first_world { database = with_clauses ts no_clauses }

-- these answers in their order, and then this ending, in this world
abbrev pub answers_in : World → List (List Tree) → Ending → Trace
answers_in w [] ending = Stops ending w
answers_in w (values ∷ others) ending = Then (Answered values) w (answers_in w others ending)

-- those of the first run that is started over this world
abbrev pub answers : List (List Tree) → Ending → World → Trace
answers values ending w = answers_in (asked w) values ending

-- `l :- l.`
abbrev pub endless : World
endless = program (rule (Name (codes "l")) (Name (codes "l")) ∷ [])

-- `l.` uses up its budget, however large, and shows nothing.
abbrev pub EndlessUsesItsBudget : Type 0
EndlessUsesItsBudget = (budget : ℕ) → Run (started (Name (codes "l")) budget endless) (answers [] Budget endless)

abbrev pub number : ℕ → Tree
number n = Integer (pos n)

-- `p(1). p(2). p(1).`
abbrev pub facts : World
facts = program (one (codes "p") (number 1) ∷ one (codes "p") (number 2) ∷ one (codes "p") (number 1) ∷ [])

-- `p(X).` has an answer for each fact, in their order. It takes one step.
abbrev pub FactsAreAnswered : Type 0
FactsAreAnswered =
    (n : ℕ) → Run (started (one (codes "p") (Variable 0)) (suc n) facts) (answers ((number 1 ∷ []) ∷ (number 2 ∷ []) ∷ (number 1 ∷ []) ∷ []) NoMore facts)

-- `eq(X, X).`
abbrev pub equal : World
equal = program (two (codes "eq") (Variable 0) (Variable 0) ∷ [])

-- `eq(X, f(X)).` has no answer: no term is an argument of itself.
abbrev pub NothingHoldsItself : Type 0
NothingHoldsItself = (n : ℕ) → Run (started (two (codes "eq") (Variable 0) (one (codes "f") (Variable 0))) (suc n) equal) (answers [] NoMore equal)

abbrev pub nil : Tree
nil = Name (codes "nil")

abbrev pub cons : Tree → Tree → Tree
cons t u = two (codes "c") t u

abbrev pub app : Tree → Tree → Tree → Tree
app t u v = three (codes "app") t u v

-- `app(nil, L, L). app(c(H, T), L, c(H, R)) :- app(T, L, R).`
abbrev pub append : World
append = program (app nil (Variable 0) (Variable 0) ∷ rule (app (cons (Variable 0) (Variable 1)) (Variable 2) (cons (Variable 0) (Variable 3))) (app (Variable 1) (Variable 2) (Variable 3)) ∷ [])

-- `app(X, Y, c(1, nil)).` splits the list in both ways: X = nil, Y = c(1, nil), and X = c(1, nil), Y = nil. It takes
-- two steps.
abbrev pub AppendSplits : Type 0
AppendSplits =
    (n : ℕ) → Run (started (app (Variable 0) (Variable 1) (cons (number 1) nil)) (suc (suc n)) append)
    (answers ((nil ∷ cons (number 1) nil ∷ []) ∷ (cons (number 1) nil ∷ nil ∷ []) ∷ []) NoMore append)

-- no clauses
abbrev pub empty : World
empty = program []

abbrev pub error : Tree → List ℕ → ℕ → Tree
error what f arity = two (codes "error") what (two (codes "/") (Name f) (number arity))

-- `q.` over no clauses: error(existence_error(procedure, q/0), q/0) is thrown, and nothing catches it.
abbrev pub UnknownIsAnError : Type 0
UnknownIsAnError =
    (n : ℕ) → Run (started (Name (codes "q")) (suc n) empty)
    (answers [] (Uncaught (error (two (codes "existence_error") (Name (codes "procedure")) (two (codes "/") (Name (codes "q")) (number 0))) (codes "q") 0)) empty)

-- `true, 3.`: error(type_error(callable, (true, 3)), call/1) is thrown before the first step.
abbrev pub NumbersAreNoGoals : Type 0
NumbersAreNoGoals =
    (budget : ℕ) → Run (started (two (codes ",") (Name (codes "true")) (number 3)) budget empty)
    (answers [] (Uncaught (error (two (codes "type_error") (Name (codes "callable")) (two (codes ",") (Name (codes "true")) (number 3))) (codes "call") 1)) empty)

-- `true, fail.` fails where it may take two steps, and uses up a budget of one.
abbrev pub EachGoalTakesAStep : Type 0
EachGoalTakesAStep =
    ((n : ℕ) → Run (started (two (codes ",") (Name (codes "true")) (Name (codes "fail"))) (suc (suc n)) empty) (answers [] NoMore empty))
    × Run (started (two (codes ",") (Name (codes "true")) (Name (codes "fail"))) 1 empty) (answers [] Budget empty)

-- `X = f(X).` has no answer, and takes a step: no term is an argument of itself.
abbrev pub EquationsAreChecked : Type 0
EquationsAreChecked = (n : ℕ) → Run (started (two (codes "=") (Variable 0) (one (codes "f") (Variable 0))) (suc n) empty) (answers [] NoMore empty)

-- `p(1). p(2). q(2). r(X) :- p(X), q(X).`
abbrev pub joined : World
joined = program (one (codes "p") (number 1) ∷ one (codes "p") (number 2) ∷ one (codes "q") (number 2) ∷ rule (one (codes "r") (Variable 0)) (two (codes ",") (one (codes "p") (Variable 0)) (one (codes "q") (Variable 0))) ∷ [])

-- `r(X).` has the answer 2: q(1) fails, and p is tried again with what comes behind it. It takes four steps.
abbrev pub JoinIsSearched : Type 0
JoinIsSearched = (n : ℕ) → Run (started (one (codes "r") (Variable 0)) (suc (suc (suc (suc n)))) joined) (answers ((number 2 ∷ []) ∷ []) NoMore joined)
