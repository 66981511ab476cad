-- How far a part of a session comes in its script.
use Rattle.std.specs.Prelude.{◌≡◌, ℕ, min, Bool, List, [], ◌∷◌, Option, Result, Ok, Err, ◌⊎◌, false, codes}
use Rattle.std.specs.Io.KnownBytes.{Appends}
use Rattle.iso_ops.specs.Operators.{Operator}
use Rattle.iso_model.specs.Search.Engines.{Phase, Ready}
use Rattle.iso_model.specs.Search.Walker.{World, State}
use Rattle.iso_model.specs.Session.Sessions.{Segment, Line, Script, Closes, Done, Halts, prepend, segment_bytes, within_behind, segments_bytes, script_bytes}
use Rattle.iso_model.specs.Session.Beginnings.{Begins, EngineStops, limit_line, SessionOutcome, Closed, Limited, Broken}
use Rattle.iso_model.specs.Terms.TermOf.{term_of}
use Rattle.iso_model.specs.Session.Lines.{error_line, halt_line, directive_failed_line, directive_refused_line, directive_stopped_line}
use Rattle.iso_model.specs.declared.pauses.Pause.{Pause}
use Rattle.iso_model.specs.declared.pauses.Pause.TheVariants as pause
use Rattle.iso_model.specs.declared.limit.Limit.{Limit}
use Rattle.iso_model.specs.declared.limit.Limit.TheVariants as limit
use Rattle.iso_session_core.specs.declared.flows.Flow.{Flow}
use Rattle.iso_session_core.specs.declared.flows.Flow.TheVariants as flow
use Rattle.iso_session_core.specs.declared.statuses.Ended.{Ended}
use Rattle.iso_session_core.specs.declared.statuses.Ended.TheVariants as ended
use Rattle.iso_session_core.specs.declared.statuses.Fault.{Fault}

-- how a session ended, by the answer of its function
abbrev pub outcome_of : Result Ended Fault → SessionOutcome
outcome_of (Ok ended.Done) = Closed Done
outcome_of (Ok (ended.Halt status)) = Closed (Halts status)
outcome_of (Ok ended.HeapFull) = Limited limit.Heap
outcome_of (Ok ended.FramesFull) = Limited limit.Frames
outcome_of (Ok ended.NoMemory) = Limited limit.Memory
outcome_of (Err fault) = Broken

-- Where a session's writing stands: the writer's bytes, where they are known, and whether the last of them is no
-- newline.
abbrev pub Place : Type 0
Place = Option (List ℕ) × Bool

-- whether bytes end within a line behind these pieces
abbrev pub within_after : Bool → List Segment → Bool
within_after within [] = within
within_after within (p ∷ ps) = within_after (within_behind within p) ps

-- From one place to another some pieces were written, which lead from one script to what is left of it.
pub record Advances (old new : Place) (before after : Script) : Type 0 where
  pub gave : List Segment
  pub bytes : Appends old.0 new.0 (segments_bytes old.1 gave)
  pub within : new.1 ≡ within_after old.1 gave
  pub is : before ≡ prepend gave after

-- The part was done: no goal runs on, and the session goes on behind it over the world of this state, for which its
-- engine stands: behind a directive's answer it is not idle.
pub record GoesOn (Stands : State → Type 0) (now : Phase) (old new : Place) (script : Script) (behind : World → Script) : Type 0 where
  pub at : State
  pub stands : Stands at
  pub ready : now ≡ Ready
  pub advances : Advances old new script (behind at.world)

-- A limit stopped the session within the part.
pub record Stops (budget : ℕ) (Stands : State → Type 0) (May : Limit → State → Type 0) (now : Phase) (limit : Limit) (old new : Place) (script : Script) : Type 0 where
  pub rest : Script
  pub advances : Advances old new script rest
  pub stops : EngineStops budget Stands May now script limit rest

-- What a part of a session has done by the answer that it gave, the last argument. `script` is what the part and all
-- behind it are to write, and `behind` what follows it; its queries have this budget, and limits may come at the
-- states that `May` names. The part was done and the session goes on, or the script is at its end, or a limit stopped
-- it within the part; where a write failed a beginning of the script was written.
abbrev pub Does : ℕ → (State → Type 0) → (Limit → State → Type 0) → Phase → Place → Place → Script → (World → Script) → Result Flow Fault → Type 0
Does budget Stands May now old new script behind (Ok flow.On) = GoesOn Stands now old new script behind
Does budget Stands May now old new script behind (Ok (flow.Halts status)) = Advances old new script (Closes (Halts status))
Does budget Stands May now old new script behind (Ok (flow.Stops limit)) = Stops budget Stands May now limit old new script
Does budget Stands May now old new script behind (Err fault) = Begins old.0 new.0 (script_bytes old.1 script)

-- A line was written, and the answer is `then`; or memory for the line was refused, nothing was written, and the
-- answer says so. Where the write failed a beginning was written.
abbrev pub PutsLine : List ℕ → Flow → Place → Place → Result Flow Fault → Type 0
PutsLine text then old new (Ok now) =
    ((now ≡ then) × Appends old.0 new.0 (segment_bytes old.1 (Line text)) × (new.1 ≡ false)) ⊎ ((now ≡ flow.Stops limit.Memory) × (new ≡ old))
PutsLine text then old new (Err fault) = Begins old.0 new.0 (segment_bytes old.1 (Line text))

-- how a session ends behind its last part
abbrev pub ended_of : Flow → Ended
ended_of flow.On = ended.Done
ended_of (flow.Halts status) = ended.Halt status
ended_of (flow.Stops limit.Heap) = ended.HeapFull
ended_of (flow.Stops limit.Frames) = ended.FramesFull
ended_of (flow.Stops limit.Memory) = ended.NoMemory

-- what is written at the end: the line of a limit
abbrev pub closing_bytes : Bool → Flow → List ℕ
closing_bytes within (flow.Stops limit) = segment_bytes within (Line (limit_line limit))
closing_bytes within other = []

-- a count of 64 bits, which stays at the greatest number
abbrev pub IsCount : ℕ → ℕ → Type 0
IsCount count k = count ≡ min k 18446744073709551615

-- What a pause that ends its query, where these are the operators then, comes to: a line, or a limit. Answers and
-- outputs end no query, and a query that runs is not spent.
abbrev pub EndsQuery : List Operator → Pause → Place → Place → Result Flow Fault → Type 0
EndsQuery table pause.NoMore old new r = PutsLine (codes "end: no more") flow.On old new r
EndsQuery table pause.Budget old new r = PutsLine (codes "end: budget") flow.On old new r
EndsQuery table (pause.Uncaught ball) old new r = PutsLine (error_line table (term_of ball.term.value)) flow.On old new r
EndsQuery table (pause.Halt status) old new r = PutsLine (halt_line status) (flow.Halts status) old new r
EndsQuery table pause.HeapFull old new r = (r ≡ Ok (flow.Stops limit.Heap)) × (new ≡ old)
EndsQuery table pause.FramesFull old new r = (r ≡ Ok (flow.Stops limit.Frames)) × (new ≡ old)
EndsQuery table pause.NoMemory old new r = (r ≡ Ok (flow.Stops limit.Memory)) × (new ≡ old)
EndsQuery table other old new r = Unit {0}

-- What a pause that ends the K-th term's directive, where these are the operators then, comes to: nothing for an
-- answer, else a line, or a limit. Outputs end no directive, and one that runs is not spent.
abbrev pub EndsDirective : ℕ → List Operator → Pause → Place → Place → Result Flow Fault → Type 0
EndsDirective k table (pause.Answer values) old new r = (r ≡ Ok flow.On) × (new ≡ old)
EndsDirective k table pause.NoMore old new r = PutsLine (directive_failed_line k) flow.On old new r
EndsDirective k table pause.Budget old new r = PutsLine (directive_stopped_line k) flow.On old new r
EndsDirective k table (pause.Uncaught ball) old new r = PutsLine (directive_refused_line table k (term_of ball.term.value)) flow.On old new r
EndsDirective k table (pause.Halt status) old new r = PutsLine (halt_line status) (flow.Halts status) old new r
EndsDirective k table pause.HeapFull old new r = (r ≡ Ok (flow.Stops limit.Heap)) × (new ≡ old)
EndsDirective k table pause.FramesFull old new r = (r ≡ Ok (flow.Stops limit.Frames)) × (new ≡ old)
EndsDirective k table pause.NoMemory old new r = (r ≡ Ok (flow.Stops limit.Memory)) × (new ≡ old)
EndsDirective k table other old new r = Unit {0}
