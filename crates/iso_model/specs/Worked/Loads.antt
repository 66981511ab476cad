-- Worked loads: how much stands in the store at most while small programs run, by the definitions (own).
use Rattle.std.specs.Prelude.{◌≡◌, ◌≤◌, ℕ, suc, ◌+◌, ◌*◌, [], ◌∷◌, codes}
use Rattle.iso_model.specs.Terms.Trees.{Variable, Name}
use Rattle.iso_model.specs.Search.Bodies.{one}
use Rattle.iso_model.specs.Search.Walker.{State, World, Event, Goes, Gives, step, started, load}
use Rattle.iso_model.specs.Worked.Runs.{program, rule, facts, empty}
use Rattle.iso_model.specs.Worked.Control.{and_goal, true_goal, fail_goal, catch_goal, findall_goal}

-- the run of the first state comes to the second
pub data Leads : State → State → Type 0 where
  here : {s : State} → Leads s s
  goes : {s t u : State} → step s ≡ Goes t → Leads t u → Leads s u
  gives : {s t u : State} {e : Event} → step s ≡ Gives e t → Leads t u → Leads s u

-- No state that the run of this one comes to has a greater load, and one has it.
abbrev pub LoadsAtMost : State → ℕ → Type 0
LoadsAtMost s most = ((t : State) → Leads s t → load t ≤ most) × ((t : State) × Leads s t × (load t ≡ most))

-- `true.`: the query counts 1, and nothing else does.
abbrev pub TrueLoads : Type 0
TrueLoads = (n : ℕ) → LoadsAtMost (started true_goal (suc n) empty) 1

-- `p. q :- p, p.`
abbrev pub atoms : World
atoms = program (Name (codes "p") ∷ rule (Name (codes "q")) (and_goal (Name (codes "p")) (Name (codes "p"))) ∷ [])

-- `q.`: the query counts 1; clauses without arguments and variables count nothing.
abbrev pub AtomsLoad : Type 0
AtomsLoad = (n : ℕ) → LoadsAtMost (started (Name (codes "q")) (suc (suc (suc n))) atoms) 1

-- `p(1). p(2). p(1).` with `p(X).`: the query counts 3 and its variable 1, and each clause 1, which failure takes back.
abbrev pub FactsLoad : Type 0
FactsLoad = (n : ℕ) → LoadsAtMost (started (one (codes "p") (Variable 0)) (suc n) facts) (3 + 1 + 1)

-- `f(X) :- f(g(X)).`
abbrev pub growing : World
growing = program (rule (one (codes "f") (Variable 0)) (one (codes "f") (one (codes "g") (Variable 0))) ∷ [])

-- `f(a).`: the query counts 3, and each step 5: the clause's variable, the argument of its head, and 3 for that of
-- its goal.
abbrev pub GrowthLoads : Type 0
GrowthLoads = (budget : ℕ) → LoadsAtMost (started (one (codes "f") (Name (codes "a"))) budget growing) (3 + budget * 5)

-- `catch(catch(q, a, true), b, true).` over no clauses: the query counts 9. The outer catch counts its goal, 5, and
-- the inner one 1. The ball counts its size, 13, at each of the marks, over what was built there: 5 at the inner one,
-- and nothing at the outer one.
abbrev pub BallLoads : Type 0
BallLoads =
    (n : ℕ) → LoadsAtMost (started (catch_goal (catch_goal (Name (codes "q")) (Name (codes "a")) true_goal) (Name (codes "b")) true_goal) (suc (suc (suc n))) empty) (9 + (5 + 13))

-- `findall(a, true, L).`: the query counts 5 and its variable 1. Its goal counts 1, which is taken back at the end,
-- where the list `[a]` counts its size, 4.
abbrev pub FindallLoads : Type 0
FindallLoads = (n : ℕ) → LoadsAtMost (started (findall_goal (Name (codes "a")) true_goal (Variable 0)) (suc (suc n)) empty) (5 + 1 + 4)

-- `assertz(p(f(a))), retractall(p(b)).`: the query counts 14; adding a clause counts nothing, and taking clauses away
-- the size of the largest head, 5.
abbrev pub RetractallLoads : Type 0
RetractallLoads =
    (n : ℕ) → LoadsAtMost
    (started (and_goal (one (codes "assertz") (one (codes "p") (one (codes "f") (Name (codes "a"))))) (one (codes "retractall") (one (codes "p") (Name (codes "b"))))) (suc (suc n)) empty)
    (14 + 5)

-- `\+ fail.`: the query counts 3, and its goal 1, which stays where it fails.
abbrev pub NegationLoads : Type 0
NegationLoads = (n : ℕ) → LoadsAtMost (started (one (codes "\\+") fail_goal) (suc (suc n)) empty) (3 + 1)
