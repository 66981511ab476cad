-- What an engine promises, said by the search: it stands for a state, and what it answers are that state's events and
-- ending. An engine keeps neither the goals as they were made nor counts, so it may stand for several states, and
-- each promise holds of each.
use Rattle.std.specs.Prelude.{◌≡◌, ◌<◌, ℕ, map, true, Result, Ok, Err}
use Rattle.std.specs.List.{All}
use Rattle.iso_model.specs.Terms.Trees.{Tree, arities_fit}
use Rattle.iso_model.specs.Terms.TermOf.{term_of}
use Rattle.iso_model.specs.Search.Additions.{Addition, Adds, Refuses}
use Rattle.iso_model.specs.Search.Walker.{State, Answered, Wrote, NoMore, Budget, Uncaught, Halted, idle, started}
use Rattle.iso_model.specs.Search.Runs.{Comes, Finishes, Reaches}
use Rattle.iso_model.specs.declared.pauses.Pause.{Pause}
use Rattle.iso_model.specs.declared.pauses.Pause.TheVariants as pause
use Rattle.iso_model.specs.declared.pauses.StartFault.{StartFault}
use Rattle.iso_model.specs.declared.pauses.StartFault.TheVariants as start
use Rattle.iso_model.specs.declared.limit.Limit.{Limit}
use Rattle.iso_model.specs.declared.limit.Limit.TheVariants as limit
use Rattle.iso_model.specs.declared.pauses.AddFault.{AddFault}
use Rattle.iso_model.specs.declared.pauses.AddFault.TheVariants as add

-- Ready: a goal may be started and clauses added (no run, or behind an answer). Midway: behind a start or an output.
-- Spent: this limit was met.
pub data Phase : Type 0 where
  Ready : Phase
  Midway : Phase
  Spent : (limit : Limit) → Phase

-- no limit was met
abbrev pub IsAwake : Phase → Type 0
IsAwake Ready = Unit {0}
IsAwake Midway = Unit {0}
IsAwake (Spent limit) = ⊥

-- What holds where an engine is that stands for this state: there, while no limit was met. A spent engine is where it
-- stopped, to which some steps without an event lead from there.
abbrev pub HoldsWhereItIs : Phase → State → (State → Type 0) → Type 0
HoldsWhereItIs Ready s P = P s
HoldsWhereItIs Midway s P = P s
HoldsWhereItIs (Spent limit) s P = Reaches s P

-- the limit for which a goal was not started
abbrev pub start_limit : StartFault → Limit
start_limit start.HeapFull = limit.Heap
start_limit start.NoMemory = limit.Memory

-- What `start` does: the engine stands for the started goal; where it is refused it is spent by that limit, and
-- stands for the state before.
abbrev pub Starts : Tree → ℕ → State → Result Unit StartFault → (State → Type 0) → Phase → Type 0
Starts goal budget s (Ok u) Stands now = Stands (started goal budget s.world) × (now ≡ Midway)
Starts goal budget s (Err e) Stands now = Stands s × (now ≡ Spent (start_limit e))

-- What `resume` does: an event or an ending of the search; behind a limit the engine is spent by it, and stands for
-- the state behind the last event.
abbrev pub Pauses : State → Pause → (State → Type 0) → Phase → Type 0
Pauses s (pause.Answer values) Stands now = Comes s (Answered (map term_of values.items)) Stands × (now ≡ Ready)
Pauses s (pause.Output bytes) Stands now = Comes s (Wrote bytes.items) Stands × (now ≡ Midway)
Pauses s pause.NoMore Stands now = Finishes s NoMore Stands × (now ≡ Ready)
Pauses s pause.Budget Stands now = Finishes s Budget Stands × (now ≡ Ready)
Pauses s (pause.Uncaught ball) Stands now = Finishes s (Uncaught (term_of ball.term.value)) Stands × (now ≡ Ready)
Pauses s (pause.Halt status) Stands now = Finishes s (Halted status) Stands × (now ≡ Ready)
Pauses s pause.HeapFull Stands now = Stands s × (now ≡ Spent limit.Heap)
Pauses s pause.FramesFull Stands now = Stands s × (now ≡ Spent limit.Frames)
Pauses s pause.NoMemory Stands now = Stands s × (now ≡ Spent limit.Memory)
Pauses s pause.Spent Stands now = ⊥

-- an engine that is spent by a limit answers so, and stands for what it stood for
abbrev pub StaysSpent : State → Limit → Pause → (State → Type 0) → Phase → Type 0
StaysSpent s limit answer Stands now = (answer ≡ pause.Spent) × Stands s × (now ≡ Spent limit)

-- Each term that `resume` gives is well formed, so that it may be handed to `start` and `consult`: the values of an
-- answer, and a ball.
abbrev pub GivesTerms : Pause → Type 0
GivesTerms (pause.Answer values) = All (λ t. arities_fit (term_of t) ≡ true) values.items
GivesTerms (pause.Uncaught ball) = arities_fit (term_of ball.term.value) ≡ true
GivesTerms p = Unit {0}

-- so is the error for which `consult` refuses a clause
abbrev pub RefusesByTerm : Result Unit AddFault → Type 0
RefusesByTerm (Ok u) = Unit {0}
RefusesByTerm (Err (add.Refused ball)) = arities_fit (term_of ball.term.value) ≡ true
RefusesByTerm (Err add.NoMemory) = Unit {0}

-- ---- where a limit may come

-- An engine names the pieces of a walk in which its heap or its frames may be full: each goes from a start or an
-- event to the next event or the ending, and is named by the state that it begins at. Memory may be refused in each.
abbrev pub MayMeet : (State → Type 0) → (State → Type 0) → Limit → State → Type 0
MayMeet HeapPieces FramesPieces limit.Heap s = HeapPieces s
MayMeet HeapPieces FramesPieces limit.Frames s = FramesPieces s
MayMeet HeapPieces FramesPieces limit.Memory s = Unit {0}

-- a goal is refused only where the limit may come in the piece that it begins
abbrev pub RefusesStart : (Limit → State → Type 0) → State → Result Unit StartFault → Type 0
RefusesStart May s (Ok u) = Unit {0}
RefusesStart May s (Err e) = May (start_limit e) s

-- a limit is met only in a piece in which it may come
abbrev pub MeetsLimit : (Limit → State → Type 0) → State → Pause → Type 0
MeetsLimit May s pause.HeapFull = May limit.Heap s
MeetsLimit May s pause.FramesFull = May limit.Frames s
MeetsLimit May s pause.NoMemory = May limit.Memory s
MeetsLimit May s p = Unit {0}

-- no limit may come where it could not come before
abbrev pub KeepsLimits : (Limit → State → Type 0) → (Limit → State → Type 0) → Type 0
KeepsLimits Old New = (l : Limit) (s : State) → New l s → Old l s

-- What `consult` does: the rest of a run is dropped, and the clause is added, or refused with its error; refused
-- clauses and want of memory leave the database as it was.
abbrev pub Consults : Addition → State → Result Unit AddFault → (State → Type 0) → Type 0
Consults (Adds db) s (Ok u) Stands = Stands (idle (record s.world { database = db }))
Consults (Adds db) s (Err (add.Refused ball)) Stands = ⊥
Consults (Adds db) s (Err add.NoMemory) Stands = Stands (idle s.world)
Consults (Refuses error) s (Ok u) Stands = ⊥
Consults (Refuses error) s (Err (add.Refused ball)) Stands = (term_of ball.term.value ≡ error) × Stands (idle s.world)
Consults (Refuses error) s (Err add.NoMemory) Stands = Stands (idle s.world)

-- the number falls at each event
abbrev pub FallsAtEvent : Pause → ℕ → ℕ → Type 0
FallsAtEvent (pause.Answer values) old new = new < old
FallsAtEvent (pause.Output bytes) old new = new < old
FallsAtEvent p old new = Unit {0}
