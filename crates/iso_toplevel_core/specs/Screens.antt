-- What the steps of a toplevel come to: reading a line, putting a text on the screen, a person's decision, a question.
use Rattle.std.specs.Prelude.{◌≡◌, ◌≤◌, ◌<◌, ℕ, Bool, List, [], ◌∷◌, ◌++◌, length, Option, Some, Result, Ok, Err, IfSome, string_bytes, ◌⊎◌}
use Rattle.std.specs.Io.KnownBytes.{Appends}
use Rattle.std.specs.Io.BufRead.{take_through, drop_through}
use Rattle.iso_model.specs.Syntax.Characters.{newline}
use Rattle.iso_model.specs.Session.Sessions.{Segment, Output, Line, Script, Closes, Done, segment_bytes, within_behind}
use Rattle.iso_model.specs.Session.Sessions as sessions
use Rattle.iso_model.specs.Session.Beginnings.{Begins}
use Rattle.iso_model.specs.declared.limit.Limit.TheVariants as limit
use Rattle.iso_session_core.specs.Progress.{Place, Advances}
use Rattle.iso_session_core.specs.declared.flows.Flow.{Flow}
use Rattle.iso_session_core.specs.declared.flows.Flow.TheVariants as flow
use Rattle.iso_toplevel_core.specs.declared.faults.Fault.{Fault}
use Rattle.iso_toplevel_core.specs.declared.faults.Fault.TheVariants as fault
use Rattle.iso_toplevel_core.specs.declared.heard.Heard.{Heard}
use Rattle.iso_toplevel_core.specs.declared.heard.Heard.TheVariants as heard
use Rattle.iso_toplevel_core.specs.declared.decisions.Decision.{Decision}
use Rattle.iso_toplevel_core.specs.declared.decisions.Decision.TheVariants as decision
use Rattle.iso_toplevel_core.specs.declared.questions.Asked.{Asked}
use Rattle.iso_toplevel_core.specs.declared.questions.Asked.TheVariants as asked
use Rattle.iso_toplevel_core.specs.Dialogues.{decided, ended}
use Rattle.iso_toplevel_core.specs.Progress.{Unheard, Fails}

-- the input can't be read on
abbrev pub IsInput : Fault → Type 0
IsInput fault.Output = ⊥
IsInput (fault.Input obstacle) = Unit {0}

-- A line was read behind a text, where it was not the end of the input.
abbrev pub Hears : Heard → Option (List ℕ) → Option (List ℕ) → List ℕ → List ℕ → Type 0
Hears heard.Line old new text more = IfSome old (λ xs. (0 < length xs) × (more ≡ text ++ take_through newline xs) × (new ≡ Some (drop_through newline xs)))
Hears heard.End old new text more = IfSome old (λ xs. (xs ≡ []) × (more ≡ text) × (new ≡ Some []))
Hears heard.NoMemory old new text more = Unit {0}

-- these bytes are a piece's, with the newline of a line
abbrev pub Carries : List ℕ → Segment → Type 0
Carries bytes (sessions.Begins runs) = ⊥
Carries bytes (Output output) = bytes ≡ output
Carries bytes (Line text) = bytes ≡ text ++ 10 ∷ []

-- A piece was written, and the answer is `then`; or memory for it was refused, nothing was written, and the answer says
-- so. Where the write failed a beginning was written.
abbrev pub PutsPiece : Segment → Flow → Place → Place → Result Flow Fault → Type 0
PutsPiece p then old new (Ok now) =
    ((now ≡ then) × Appends old.0 new.0 (segment_bytes old.1 p) × (new.1 ≡ within_behind old.1 p)) ⊎ ((now ≡ flow.Stops limit.Memory) × (new ≡ old))
PutsPiece p then old new (Err fault.Output) = Begins old.0 new.0 (segment_bytes old.1 p)
PutsPiece p then old new (Err (fault.Input obstacle)) = ⊥

-- A step leads from one script to another, or fails within.
abbrev pub Leads : Place → Place → Script → Script → Result Unit Fault → Type 0
Leads old new before after (Ok u) = Advances old new before after
Leads old new before after (Err e) = Fails old new before e

-- A step leads from one script to another, or memory for it was refused and nothing was written, or it fails within.
abbrev pub LeadsOn : Place → Place → Script → Script → Result Flow Fault → Type 0
LeadsOn old new before after (Ok flow.On) = Advances old new before after
LeadsOn old new before after (Ok (flow.Halts status)) = ⊥
LeadsOn old new before after (Ok (flow.Stops limit.Memory)) = new ≡ old
LeadsOn old new before after (Ok (flow.Stops other)) = ⊥
LeadsOn old new before after (Err e) = Fails old new before e

-- the dialogue goes on so, with what is left of the input
pub record Leaves (old new : Place) (input : List ℕ) (known : Option (List ℕ)) (script : Script) (behind : List ℕ → Script) : Type 0 where
  pub left : List ℕ
  pub known_left : known ≡ Some left
  pub no_more : length left ≤ length input
  pub advances : Advances old new script (behind left)

-- What a person's decision behind an answer comes to.
abbrev pub Decides : Bool → Place → Place → List ℕ → Option (List ℕ) → (List ℕ → Script) → (List ℕ → Script) → Result Decision Fault → Type 0
Decides waits old new input known on stop (Ok decision.Next) = Leaves old new input known (decided waits input on stop) on
Decides waits old new input known on stop (Ok decision.Stop) = Leaves old new input known (decided waits input on stop) stop
Decides waits old new input known on stop (Ok decision.NoMemory) = Unheard old new (decided waits input on stop)
Decides waits old new input known on stop (Err e) = Fails old new (decided waits input on stop) e

-- a text was read, which took a byte of the input at least
pub record IsAsked (old new : Place) (input : List ℕ) (known : Option (List ℕ)) (text : List ℕ) (script : Script) (behind : List ℕ → List ℕ → Script) : Type 0 where
  pub left : List ℕ
  pub known_left : known ≡ Some left
  pub shorter : length left < length input
  pub advances : Advances old new script (behind text left)

-- What reading a text comes to.
abbrev pub Asks : Place → Place → List ℕ → Option (List ℕ) → Script → (List ℕ → List ℕ → Script) → Result Asked Fault → Type 0
Asks old new input known script behind (Ok (asked.Text text)) = IsAsked old new input known (string_bytes text) script behind
Asks old new input known script behind (Ok asked.End) = Leaves old new input known script (λ _. Closes Done)
Asks old new input known script behind (Ok asked.NoMemory) = Unheard old new script
Asks old new input known script behind (Err e) = Fails old new script e

-- What the end of the input comes to, behind this text that was read so far.
abbrev pub Finishes : Place → Place → Bool → List ℕ → (List ℕ → List ℕ → Script) → Result Asked Fault → Type 0
Finishes old new waits text behind (Ok (asked.Text last)) = (0 < length text) × (string_bytes last ≡ text) × Advances old new (ended waits text behind) (behind text [])
Finishes old new waits text behind (Ok asked.End) = (text ≡ []) × Advances old new (ended waits text behind) (Closes Done)
Finishes old new waits text behind (Ok asked.NoMemory) = ⊥
Finishes old new waits text behind (Err e) = Fails old new (ended waits text behind) e
