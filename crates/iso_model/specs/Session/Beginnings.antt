-- What a session has written when it ends (own): all of its text, or a beginning of it where a limit or the writer
-- ends it.
use Rattle.std.specs.Prelude.{◌≡◌, ◌<◌, ◌+◌, ℕ, false, List, [], ◌∷◌, ◌++◌, length, Option, codes, ◌⊎◌}
use Rattle.std.specs.Io.KnownBytes.{Appends}
use Rattle.iso_model.specs.Syntax.Grammar.{ReadTerm}
use Rattle.iso_model.specs.Syntax.Items.{Readable}
use Rattle.iso_model.specs.Terms.Trees.{Tree}
use Rattle.iso_model.specs.Search.Walker.{World, State, started}
use Rattle.iso_model.specs.Search.Runs.{HasGiven}
use Rattle.iso_model.specs.Search.Engines.{Phase, Spent, IsAwake, MayMeet}
use Rattle.iso_model.specs.declared.limit.Limit.{Limit}
use Rattle.iso_model.specs.declared.limit.Limit.TheVariants as limit
use Rattle.iso_model.specs.Search.RunLaws.{run_of}
use Rattle.iso_model.specs.Session.Sessions.{Segment, Line, Script, Shows, SessionEnd, prepend, segments_bytes, script_bytes, script_end, run_script, query_goal, query_script, directive_script, goal_script, session_script}

-- a writer's bytes, where they are known, grew by a beginning of these, behind which something is left
pub record Begins (old new : Option (List ℕ)) (whole : List ℕ) : Type 0 where
  pub front : List ℕ
  pub back : List ℕ
  pub is : front ++ back ≡ whole
  pub left : 0 < length back
  pub bytes : Appends old new front

-- the last line of a session that a limit ends
abbrev pub limit_line : Limit → List ℕ
limit_line limit.Heap = codes "end: heap full"
limit_line limit.Frames = codes "end: frames full"
limit_line limit.Memory = codes "end: no memory"

-- the bytes of a session that a limit ends behind these pieces; its line begins at the start of a line
abbrev pub cut_text : List Segment → Limit → List ℕ
cut_text gave limit = segments_bytes false (gave ++ Line (limit_line limit) ∷ [])

-- A limit ended the session behind some pieces of its script, of whose rest P holds.
pub record IsCut (script : Script) (limit : Limit) (P : Script → Type 0) (old new : Option (List ℕ)) : Type 0 where
  pub gave : List Segment
  pub rest : Script
  pub is : script ≡ prepend gave rest
  pub bytes : Appends old new (cut_text gave limit)
  pub stands : P rest

-- What a session with this script writes where no write fails: all of its text, or a beginning, of whose rest P
-- holds, and a limit's line.
pub data IsWritten (script : Script) (P : Limit → Script → Type 0) : List ℕ → Type 0 where
  whole : IsWritten script P (script_bytes false script)
  cut : (gave : List Segment) (rest : Script) → script ≡ prepend gave rest → (limit : Limit) → P limit rest → IsWritten script P (cut_text gave limit)

-- A failed write ended the session behind a beginning of what would else have been written, of which something is left.
pub record IsBroken (script : Script) (P : Limit → Script → Type 0) (old new : Option (List ℕ)) : Type 0 where
  pub text : List ℕ
  pub would : IsWritten script P text
  pub begins : Begins old new text

-- how a session ends: as its script does, by a limit, or by a write that failed
pub data SessionOutcome : Type 0 where
  Closed : (ending : SessionEnd) → SessionOutcome
  Limited : (limit : Limit) → SessionOutcome
  Broken : SessionOutcome

-- A session with this script ended so, and wrote this. Of the rest of a script that a limit ended, `Stops` holds.
abbrev pub Writes : Script → (Limit → Script → Type 0) → Option (List ℕ) → Option (List ℕ) → SessionOutcome → Type 0
Writes script Stops old new (Closed ending) = Appends old new (script_bytes false script) × (ending ≡ script_end script)
Writes script Stops old new (Limited limit) = IsCut script limit (Stops limit) old new
Writes script Stops old new Broken = IsBroken script Stops old new

-- a goal may be refused by this limit: it needs no frames to be started
abbrev pub MayRefuse : Limit → Type 0
MayRefuse limit.Heap = Unit {0}
MayRefuse limit.Frames = ⊥
MayRefuse limit.Memory = Unit {0}

-- Where in a script a limit stops a walk that is at this state: at a query or a directive that was not started, or
-- within its run, behind all that the run gave so far, some segments further on; and what is left of the script
-- there. The limit may come in the piece of the walk that follows. A run's first segment says how many runs came
-- before it, so that of two equal queries one is named.
pub data StopsAt (budget : ℕ) (May : Limit → State → Type 0) (limit : Limit) (s : State) : Script → Script → Type 0 where
  before_run : (query : ReadTerm) (w : World) (next : World → Script) → s.world ≡ w → MayRefuse limit → May limit (started (query_goal query.term) budget w)
      → StopsAt budget May limit s (query_script budget (Readable query) w next) (query_script budget (Readable query) w next)
  within_run : (query : ReadTerm) (w : World) (next : World → Script) (k : ℕ) → HasGiven (started (query_goal query.term) budget w) k s → May limit s
      → StopsAt budget May limit s (query_script budget (Readable query) w next) (run_script query.names (k + 1) (run_of s) next)
  before_directive : (k : ℕ) (goal : Tree) (w : World) (next : World → Script) → s.world ≡ w → MayRefuse limit → May limit (started goal budget w)
      → StopsAt budget May limit s (goal_script budget k goal w next) (goal_script budget k goal w next)
  within_directive : (k : ℕ) (goal : Tree) (w : World) (next : World → Script) → HasGiven (started goal budget w) 0 s → May limit s
      → StopsAt budget May limit s (goal_script budget k goal w next) (directive_script k (run_of s) next)
  further_on : (p : Segment) {script rest : Script} → StopsAt budget May limit s script rest → StopsAt budget May limit s (Shows p script) rest

-- an engine that stands for states of which P holds is spent by this limit, and stopped there
pub record StopsIn (budget : ℕ) (P : State → Type 0) (May : Limit → State → Type 0) (now : Phase) (limit : Limit) (script rest : Script) : Type 0 where
  pub at : State
  pub stands : P at
  pub spent : now ≡ Spent limit
  pub stops : StopsAt budget May limit at script rest

-- Heap and frames stop an engine; memory may also be refused to the session itself, whose engine no limit stopped.
abbrev pub EngineStops : ℕ → (State → Type 0) → (Limit → State → Type 0) → Phase → Script → Limit → Script → Type 0
EngineStops budget Stands May now script limit.Heap rest = StopsIn budget Stands May now limit.Heap script rest
EngineStops budget Stands May now script limit.Frames rest = StopsIn budget Stands May now limit.Frames script rest
EngineStops budget Stands May now script limit.Memory rest = StopsIn budget Stands May now limit.Memory script rest ⊎ IsAwake now

-- Where limits stop a walk: the heap and the frames only in the pieces that are named for them.
abbrev pub WalkStops : ℕ → (State → Type 0) → (State → Type 0) → Script → Limit → Script → Type 0
WalkStops budget HeapPieces FramesPieces script limit.Heap rest = (s : State) × StopsAt budget (MayMeet HeapPieces FramesPieces) limit.Heap s script rest
WalkStops budget HeapPieces FramesPieces script limit.Frames rest = (s : State) × StopsAt budget (MayMeet HeapPieces FramesPieces) limit.Frames s script rest
WalkStops budget HeapPieces FramesPieces script limit.Memory rest = Unit {0}

-- For every program text, every list of queries and every budget, the bytes that a session writes are those of the
-- standard's search, walked depth first and left to right: each output, answer and error, in order, with repetitions;
-- a session that heap, frames or memory end has written a beginning of them and says which.
abbrev pub SessionWrites : List ℕ → List ℕ → ℕ → (Limit → Script → Type 0) → Option (List ℕ) → Option (List ℕ) → SessionOutcome → Type 0
SessionWrites text queries budget Stops old new outcome = Writes (session_script text queries budget) Stops old new outcome
