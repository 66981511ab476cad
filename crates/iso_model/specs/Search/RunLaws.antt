-- Laws of runs: every state has exactly one run, and how it is made of what steps come to.
pub mod Weights
pub mod Exists
pub mod Named
pub mod Marks
pub mod Sameness
pub mod Thinness
pub mod Spans
pub mod Counts
use Rattle.std.specs.Prelude.{◌≡◌, ◌≤◌, ℕ, Bool}
use Rattle.iso_model.specs.Search.Walker.{State, World, Event, Ending, Goes, Gives, Ends, step, started}
use Rattle.iso_model.specs.Search.Runs.{Trace, Then, Stops, Run, Quiet}
use Rattle.iso_model.specs.Terms.Trees.{Tree}
use Rattle.iso_model.specs.Search.Databases.{Clause}
use Rattle.iso_model.specs.Search.RunLaws.Sameness.{Same}
use Rattle.iso_model.specs.Search.RunLaws.Thinness.{ThinList, Around, Thin}
use Rattle.iso_model.specs.Search.RunLaws.Spans.{span}
use Rattle.iso_model.specs.Search.RunLaws.Marks.{IsMarked, KeepsMarked}
pub use Rattle.iso_model.specs.Search.RunLaws.Named.{one_run, run_of, run_of_is, run_of_only}
pub use Rattle.iso_model.specs.Search.RunLaws.Exists.{has_run}

-- every state has exactly one run; its budget is finite
abbrev pub EveryStateHasOneRun : Type 0
EveryStateHasOneRun = (s : State) → (r : Trace) × Run s r × ((q : Trace) → Run s q → q ≡ r)

-- the run that is named is the state's
abbrev pub RunOfIsTheRun : Type 0
RunOfIsTheRun = (s : State) → Run s (run_of s)

-- steps without an event keep the run
abbrev pub QuietStepsKeepTheRun : Type 0
QuietStepsKeepTheRun = (s t : State) → Quiet s t → run_of s ≡ run_of t

-- an event that comes is the run's first, and the run behind it is that of the state there
abbrev pub EventsBeginTheRun : Type 0
EventsBeginTheRun = (s at t : State) (e : Event) → Quiet s at → step at ≡ Gives e t → run_of s ≡ Then e t.world (run_of t)

-- an ending that comes is all of the run
abbrev pub EndingsAreTheRun : Type 0
EndingsAreTheRun = (s at : State) (e : Ending) (w : World) → Quiet s at → step at ≡ Ends e w → run_of s ≡ Stops e w

-- States that are the same have one run: the marks that nothing reads, and how much less the first has built, have no
-- part in it.
abbrev pub SameStatesHaveOneRun : Type 0
SameStatesHaveOneRun = (s t : State) → Same s t → run_of s ≡ run_of t

-- A state, and the state without alternatives of clauses that all miss their call, have one run. So it is where single
-- clauses that miss it are left out, and rows that miss the left one.
abbrev pub ThinStatesHaveOneRun : Type 0
ThinStatesHaveOneRun = (t s : State) → Thin t s → run_of t ≡ run_of s

-- The thin state spans no more, whatever test says which clauses may be entered.
abbrev pub ThinStatesSpanNoMore : Type 0
ThinStatesSpanNoMore = (enters : Tree → Clause → Bool) (t s : State) (at : Around t s) → ThinList at.keeps t.list s.list → span enters t ≤ span enters s

-- Each cut mark is a height at which the stack stands still, and what follows a mark is marked over what the mark
-- leaves: so it is when a goal is started, and every step keeps it.
abbrev pub MarksStand : Type 0
MarksStand = ((goal : Tree) (budget : ℕ) (w : World) → IsMarked (started goal budget w)) × ((s : State) → IsMarked s → KeepsMarked (step s))
