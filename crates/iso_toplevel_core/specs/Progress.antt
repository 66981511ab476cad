-- How far a part of a toplevel comes in its script, and what the toplevel has done at its end.
use Rattle.std.specs.Prelude.{◌≡◌, ◌≤◌, ℕ, Bool, false, List, length, Option, Some, Result, Ok, Err, ◌⊎◌}
use Rattle.std.specs.Io.KnownBytes.{Appends}
use Rattle.iso_model.specs.Syntax.Grammar.{ReadTerm}
use Rattle.iso_model.specs.Syntax.Items.{Readable}
use Rattle.iso_model.specs.Search.Engines.{Phase, Ready, Spent, IsAwake, MayMeet}
use Rattle.iso_model.specs.Search.Walker.{World, State, started}
use Rattle.iso_model.specs.Search.Runs.{HasGiven}
use Rattle.iso_model.specs.Search.RunLaws.{run_of}
use Rattle.iso_model.specs.Session.Sessions.{Segment, Script, Shows, Closes, Done, Halts, query_goal, prepend, segments_bytes, script_bytes}
use Rattle.iso_model.specs.Session.Beginnings.{Begins, MayRefuse, StopsAt, Closed, Limited, Broken, Writes}
use Rattle.iso_model.specs.declared.limit.Limit.{Limit}
use Rattle.iso_model.specs.declared.limit.Limit.TheVariants as limit
use Rattle.iso_session_core.specs.Progress.{Place, Advances}
use Rattle.iso_session_core.specs.declared.flows.Flow.{Flow}
use Rattle.iso_session_core.specs.declared.flows.Flow.TheVariants as flow
use Rattle.iso_session_core.specs.declared.statuses.Ended.{Ended}
use Rattle.iso_session_core.specs.declared.statuses.Ended.TheVariants as ended
use Rattle.iso_toplevel_core.specs.declared.faults.Fault.{Fault}
use Rattle.iso_toplevel_core.specs.declared.faults.Fault.TheVariants as fault
use Rattle.iso_toplevel_core.specs.Dialogues.{Behind, query_shown, run_shown}

-- Where in a script a limit stops a walk that is at this state, and what is left of the script there: in the program
-- text, at a query that was not started, or within the run of one, some segments further on. The limit may come in the
-- piece of the walk that follows. A run's first segment says how many runs came before it.
pub data StopsThere (waits : Bool) (budget : ℕ) (May : Limit → State → Type 0) (limit : Limit) (s : State) : Script → Script → Type 0 where
  in_text : {script rest : Script} → StopsAt budget May limit s script rest → StopsThere waits budget May limit s script rest
  before_query : (query : ReadTerm) (w : World) (input : List ℕ) (next : Behind) → s.world ≡ w → MayRefuse limit → May limit (started (query_goal query.term) budget w)
      → StopsThere waits budget May limit s (query_shown waits budget (Readable query) w input next) (query_shown waits budget (Readable query) w input next)
  within_query : (query : ReadTerm) (w : World) (input left : List ℕ) (within answered : Bool) (next : Behind) (k : ℕ) → HasGiven (started (query_goal query.term) budget w) k s → May limit s
      → StopsThere waits budget May limit s (query_shown waits budget (Readable query) w input next) (run_shown waits query.names within answered (run_of s) left next)
  further_on : (p : Segment) {script rest : Script} → StopsThere waits budget May limit s script rest → StopsThere waits budget May limit s (Shows p script) rest

-- an engine that stands for states of which P holds is spent by this limit, and stopped there
pub record StopsIn (waits : Bool) (budget : ℕ) (P : State → Type 0) (May : Limit → State → Type 0) (now : Phase) (limit : Limit) (script rest : Script) : Type 0 where
  pub at : State
  pub stands : P at
  pub spent : now ≡ Spent limit
  pub stops : StopsThere waits budget May limit at script rest

-- Heap and frames stop an engine; memory may also be refused to the toplevel itself, whose engine no limit stopped.
abbrev pub ToplevelStops : Bool → ℕ → (State → Type 0) → (Limit → State → Type 0) → Phase → Script → Limit → Script → Type 0
ToplevelStops waits budget Stands May now script limit.Heap rest = StopsIn waits budget Stands May now limit.Heap script rest
ToplevelStops waits budget Stands May now script limit.Frames rest = StopsIn waits budget Stands May now limit.Frames script rest
ToplevelStops waits budget Stands May now script limit.Memory rest = StopsIn waits budget Stands May now limit.Memory script rest ⊎ IsAwake now

-- Where limits stop a toplevel's walk: the heap and the frames only in the pieces that are named for them.
abbrev pub ToplevelWalkStops : Bool → ℕ → (State → Type 0) → (State → Type 0) → Script → Limit → Script → Type 0
ToplevelWalkStops waits budget HeapPieces FramesPieces script limit.Heap rest = (s : State) × StopsThere waits budget (MayMeet HeapPieces FramesPieces) limit.Heap s script rest
ToplevelWalkStops waits budget HeapPieces FramesPieces script limit.Frames rest = (s : State) × StopsThere waits budget (MayMeet HeapPieces FramesPieces) limit.Frames s script rest
ToplevelWalkStops waits budget HeapPieces FramesPieces script limit.Memory rest = Unit {0}

-- ---- parts

-- The part was done: the search stands still, and the dialogue goes on behind it over the world of this state, for
-- which its engine stands, with what is left of the input.
pub record GoesOn (Stands : State → Type 0) (now : Phase) (old new : Place) (input : List ℕ) (known : Option (List ℕ)) (script : Script) (behind : Behind) : Type 0 where
  pub at : State
  pub stands : Stands at
  pub ready : now ≡ Ready
  pub left : List ℕ
  pub known_left : known ≡ Some left
  pub no_more : length left ≤ length input
  pub advances : Advances old new script (behind at.world left)

-- A limit stopped the toplevel within the part.
pub record Stops (waits : Bool) (budget : ℕ) (Stands : State → Type 0) (May : Limit → State → Type 0) (now : Phase) (limit : Limit) (old new : Place) (script : Script) : Type 0 where
  pub rest : Script
  pub advances : Advances old new script rest
  pub stops : ToplevelStops waits budget Stands May now script limit rest

-- the input failed behind a beginning of the script
pub record Unheard (old new : Place) (script : Script) : Type 0 where
  pub rest : Script
  pub advances : Advances old new script rest

-- What a part that failed has written: a beginning of its script.
abbrev pub Fails : Place → Place → Script → Fault → Type 0
Fails old new script fault.Output = Begins old.0 new.0 (script_bytes old.1 script)
Fails old new script (fault.Input obstacle) = Unheard old new script

-- What a part of a toplevel has done by the answer that it gave, the last argument. `script` is what the part and all
-- behind it are to write where this is the input, of which `known` is left now, and `behind` what follows the part.
abbrev pub Does : Bool → ℕ → (State → Type 0) → (Limit → State → Type 0) → Phase → Place → Place → List ℕ → Option (List ℕ) → Script → Behind → Result Flow Fault → Type 0
Does waits budget Stands May now old new input known script behind (Ok flow.On) = GoesOn Stands now old new input known script behind
Does waits budget Stands May now old new input known script behind (Ok (flow.Halts status)) = Advances old new script (Closes (Halts status))
Does waits budget Stands May now old new input known script behind (Ok (flow.Stops limit)) = Stops waits budget Stands May now limit old new script
Does waits budget Stands May now old new input known script behind (Err e) = Fails old new script e

-- the search stands still at a state that the engine stands for
pub record StandsStill (Stands : State → Type 0) (now : Phase) : Type 0 where
  pub at : State
  pub stands : Stands at
  pub ready : now ≡ Ready

-- so it is where the dialogue goes on, whatever is known of the input
abbrev pub StillWhereOn : (State → Type 0) → Phase → Result Flow Fault → Type 0
StillWhereOn Stands now (Ok flow.On) = StandsStill Stands now
StillWhereOn Stands now other = Unit {0}

-- ---- the whole

-- a toplevel has written these pieces of its script
pub record IsBegun (script : Script) (old new : Option (List ℕ)) : Type 0 where
  pub gave : List Segment
  pub rest : Script
  pub is : script ≡ prepend gave rest
  pub bytes : Appends old new (segments_bytes false gave)

-- What a toplevel with this script has written, by the answer of its function: all of the script, of which no limit may
-- come but those that `Stops` names, or a beginning.
abbrev pub ToplevelDoes : Script → (Limit → Script → Type 0) → Option (List ℕ) → Option (List ℕ) → Result Ended Fault → Type 0
ToplevelDoes script Stops old new (Ok ended.Done) = Writes script Stops old new (Closed Done)
ToplevelDoes script Stops old new (Ok (ended.Halt status)) = Writes script Stops old new (Closed (Halts status))
ToplevelDoes script Stops old new (Ok ended.HeapFull) = Writes script Stops old new (Limited limit.Heap)
ToplevelDoes script Stops old new (Ok ended.FramesFull) = Writes script Stops old new (Limited limit.Frames)
ToplevelDoes script Stops old new (Ok ended.NoMemory) = Writes script Stops old new (Limited limit.Memory)
ToplevelDoes script Stops old new (Err fault.Output) = Writes script Stops old new Broken
ToplevelDoes script Stops old new (Err (fault.Input obstacle)) = IsBegun script old new
