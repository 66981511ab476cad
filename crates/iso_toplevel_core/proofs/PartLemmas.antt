-- How parts of a toplevel follow each other in its script.
use Rattle.std.proofs.Common.{◌≡◌, ◌≤◌, ℕ, Bool, List, [], ◌∷◌, length, Option, Some, Result, Ok, Err, inl, inr, refl, arith}
use Rattle.std.specs.Result.{IsErrAnd}
use Rattle.iso_model.specs.Search.Engines.{Phase, Ready}
use Rattle.iso_model.specs.Search.Walker.{State}
use Rattle.iso_model.specs.Session.Sessions.{Segment, Script, Shows, Closes, Halts, prepend, segment_bytes, within_behind, script_bytes}
use Rattle.iso_model.specs.Session.Beginnings.{Begins}
use Rattle.iso_model.specs.declared.limit.Limit.{Limit}
use Rattle.iso_model.specs.declared.limit.Limit.TheVariants as limit
use Rattle.iso_session_core.specs.declared.flows.Flow.{Flow}
use Rattle.iso_session_core.specs.declared.flows.Flow.TheVariants as flow
use Rattle.iso_session_core.specs.Progress.{Place, Advances}
use Rattle.iso_session_core.proofs.WrittenLemmas.{begins_before}
use Rattle.iso_session_core.proofs.ProgressLemmas.{advance_none, advance_on, advance_segment, begins_on, ready_awake}
use Rattle.iso_toplevel_core.specs.declared.faults.Fault.{Fault}
use Rattle.iso_toplevel_core.specs.declared.faults.Fault.TheVariants as fault
use Rattle.iso_toplevel_core.specs.Dialogues.{Behind}
use Rattle.iso_toplevel_core.specs.Progress.{StopsIn, further_on, ToplevelStops, Stops, Fails, Does}
use Rattle.iso_toplevel_core.specs.Screens.{PutsPiece}

-- an engine stopped further on, behind what was written
stops_behind : (waits : Bool) (budget : ℕ) (Stands : State → Type 0) (May : Limit → State → Type 0) (now : Phase) (l : Limit) (ps : List Segment) {script rest : Script}
    → StopsIn waits budget Stands May now l script rest → StopsIn waits budget Stands May now l (prepend ps script) rest
stops_behind waits budget Stands May now l [] h = h
stops_behind waits budget Stands May now l (p ∷ ps) h =
    let later = stops_behind waits budget Stands May now l ps h in
    record { at = later.at; stands = later.stands; spent = later.spent; stops = further_on p later.stops }

pub stops_later : (waits : Bool) (budget : ℕ) (Stands : State → Type 0) (May : Limit → State → Type 0) (now : Phase) (l : Limit) {old mid : Place} {s t : Script} (rest : Script) → Advances old mid s t
    → ToplevelStops waits budget Stands May now t l rest → ToplevelStops waits budget Stands May now s l rest
stops_later waits budget Stands May now limit.Heap rest h stops = rw h.is (stops_behind waits budget Stands May now limit.Heap h.gave stops)
stops_later waits budget Stands May now limit.Frames rest h stops = rw h.is (stops_behind waits budget Stands May now limit.Frames h.gave stops)
stops_later waits budget Stands May now limit.Memory rest h (inl stops) = inl (rw h.is (stops_behind waits budget Stands May now limit.Memory h.gave stops))
stops_later waits budget Stands May now limit.Memory rest h (inr awake) = inr awake

-- a failure behind what was written
pub fails_after : (old mid new : Place) (s t : Script) (e : Fault) → Advances old mid s t → Fails mid new t e → Fails old new s e
fails_after old mid new s t fault.Output h d = begins_on new.0 h d
fails_after old mid new s t (fault.Input obstacle) h d = record { rest = d.rest; advances = advance_on h d.advances }

-- what a part does behind what was written
pub does_after : (waits : Bool) (budget : ℕ) (Stands : State → Type 0) (May : Limit → State → Type 0) (now : Phase) (old mid new : Place) (input left : List ℕ) (known : Option (List ℕ)) (s t : Script) (behind : Behind) (r : Result Flow Fault)
    → length left ≤ length input → Advances old mid s t → Does waits budget Stands May now mid new left known t behind r → Does waits budget Stands May now old new input known s behind r
does_after waits budget Stands May now old mid new input left known s t behind (Ok flow.On) fewer h d =
    record { at = d.at; stands = d.stands; ready = d.ready; left = d.left; known_left = d.known_left; no_more = omega (arith, fewer, d.no_more); advances = advance_on h d.advances }
does_after waits budget Stands May now old mid new input left known s t behind (Ok (flow.Halts n)) fewer h d = advance_on h d
does_after waits budget Stands May now old mid new input left known s t behind (Ok (flow.Stops l)) fewer h d =
    record { rest = d.rest; advances = advance_on h d.advances; stops = stops_later waits budget Stands May now l d.rest h d.stops }
does_after waits budget Stands May now old mid new input left known s t behind (Err e) fewer h d = fails_after old mid new s t e h d

-- a part that doesn't go on, behind what was written
pub stops_after : (waits : Bool) (budget : ℕ) (Stands : State → Type 0) (May : Limit → State → Type 0) (now : Phase) (old mid new : Place) (input left : List ℕ) (known later : Option (List ℕ)) (s t : Script) (behind other : Behind) (f : Flow)
    → Advances old mid s t → (f ≡ flow.On → ⊥) → Does waits budget Stands May now mid new left known t behind (Ok f) → Does waits budget Stands May now old new input later s other (Ok f)
stops_after waits budget Stands May now old mid new input left known later s t behind other flow.On h ends d = absurd (ends refl)
stops_after waits budget Stands May now old mid new input left known later s t behind other (flow.Halts n) h ends d = advance_on h d
stops_after waits budget Stands May now old mid new input left known later s t behind other (flow.Stops l) h ends d =
    record { rest = d.rest; advances = advance_on h d.advances; stops = stops_later waits budget Stands May now l d.rest h d.stops }

-- a part that failed, behind what was written
pub failed_after : (waits : Bool) (budget : ℕ) (Stands : State → Type 0) (May : Limit → State → Type 0) (now : Phase) (old mid new : Place) (input : List ℕ) (known : Option (List ℕ)) (s t : Script) (behind : Behind) (e : Fault) (r : Result Flow Fault)
    → Advances old mid s t → IsErrAnd r (λ f. f ≡ e) → Fails mid new t e → Does waits budget Stands May now old new input known s behind r
failed_after waits budget Stands May now old mid new input known s t behind e (Ok f) h failed fails = absurd failed
failed_after waits budget Stands May now old mid new input known s t behind e (Err f) h failed fails = rw failed (fails_after old mid new s t e h fails)

-- a write of a piece failed, behind what was written
pub piece_breaks : (old mid new : Place) (s : Script) (p : Segment) (rest : Script) → Advances old mid s (Shows p rest) → Begins mid.0 new.0 (segment_bytes mid.1 p) → Begins old.0 new.0 (script_bytes old.1 s)
piece_breaks old mid new s p rest h b = begins_on new.0 h (begins_before mid.0 new.0 (segment_bytes mid.1 p) (script_bytes (within_behind mid.1 p) rest) b)

-- memory was refused behind what was written
pub memory_stops : (waits : Bool) (budget : ℕ) (Stands : State → Type 0) (May : Limit → State → Type 0) (now : Phase) (old new : Place) (script rest : Script) → Advances old new script rest → now ≡ Ready
    → Stops waits budget Stands May now limit.Memory old new script
memory_stops waits budget Stands May now old new script rest h ready = record { rest = rest; advances = h; stops = inr (ready_awake now ready) }

-- a piece was put, or memory for it was refused, and the dialogue goes on where an engine stands for a state over this
-- world
pub puts_on : (waits : Bool) (budget : ℕ) (Stands : State → Type 0) (May : Limit → State → Type 0) (now : Phase) (old new : Place) (input : List ℕ) (known : Option (List ℕ)) (p : Segment) (at : State) (behind : Behind) (r : Result Flow Fault)
    → PutsPiece p flow.On old new r → Stands at → now ≡ Ready → known ≡ Some input → Does waits budget Stands May now old new input known (Shows p (behind at.world input)) behind r
puts_on waits budget Stands May now old new input known p at behind (Ok flow.On) (inl h) stands ready is =
    record { at = at; stands = stands; ready = ready; left = input; known_left = is; no_more = omega arith; advances = advance_segment old new p (behind at.world input) h.1 h.2 }
puts_on waits budget Stands May now old new input known p at behind (Ok flow.On) (inr h) stands ready is = cc
puts_on waits budget Stands May now old new input known p at behind (Ok (flow.Halts n)) (inl h) stands ready is = cc
puts_on waits budget Stands May now old new input known p at behind (Ok (flow.Halts n)) (inr h) stands ready is = cc
puts_on waits budget Stands May now old new input known p at behind (Ok (flow.Stops l)) (inl h) stands ready is = cc
puts_on waits budget Stands May now old new input known p at behind (Ok (flow.Stops limit.Heap)) (inr h) stands ready is = cc
puts_on waits budget Stands May now old new input known p at behind (Ok (flow.Stops limit.Frames)) (inr h) stands ready is = cc
puts_on waits budget Stands May now old new input known p at behind (Ok (flow.Stops limit.Memory)) (inr h) stands ready is =
    rw h.1 (memory_stops waits budget Stands May now old old (Shows p (behind at.world input)) (Shows p (behind at.world input)) (advance_none old (Shows p (behind at.world input))) ready)
puts_on waits budget Stands May now old new input known p at behind (Err fault.Output) h stands ready is =
    begins_before old.0 new.0 (segment_bytes old.1 p) (script_bytes (within_behind old.1 p) (behind at.world input)) h
puts_on waits budget Stands May now old new input known p at behind (Err (fault.Input obstacle)) h stands ready is = absurd h

-- a piece was put, or memory for it was refused, that ends the script
pub puts_halt : (waits : Bool) (budget : ℕ) (Stands : State → Type 0) (May : Limit → State → Type 0) (now : Phase) (old new : Place) (input : List ℕ) (known : Option (List ℕ)) (p : Segment) (status : ℕ) (behind : Behind) (r : Result Flow Fault)
    → PutsPiece p (flow.Halts status) old new r → now ≡ Ready → Does waits budget Stands May now old new input known (Shows p (Closes (Halts status))) behind r
puts_halt waits budget Stands May now old new input known p status behind (Ok flow.On) (inl h) ready = cc
puts_halt waits budget Stands May now old new input known p status behind (Ok flow.On) (inr h) ready = cc
puts_halt waits budget Stands May now old new input known p status behind (Ok (flow.Halts n)) (inl h) ready =
    let same : n ≡ status = cc in
    rw same (advance_segment old new p (Closes (Halts status)) h.1 h.2)
puts_halt waits budget Stands May now old new input known p status behind (Ok (flow.Halts n)) (inr h) ready = cc
puts_halt waits budget Stands May now old new input known p status behind (Ok (flow.Stops l)) (inl h) ready = cc
puts_halt waits budget Stands May now old new input known p status behind (Ok (flow.Stops limit.Heap)) (inr h) ready = cc
puts_halt waits budget Stands May now old new input known p status behind (Ok (flow.Stops limit.Frames)) (inr h) ready = cc
puts_halt waits budget Stands May now old new input known p status behind (Ok (flow.Stops limit.Memory)) (inr h) ready =
    rw h.1 (memory_stops waits budget Stands May now old old (Shows p (Closes (Halts status))) (Shows p (Closes (Halts status))) (advance_none old (Shows p (Closes (Halts status)))) ready)
puts_halt waits budget Stands May now old new input known p status behind (Err fault.Output) h ready =
    begins_before old.0 new.0 (segment_bytes old.1 p) (script_bytes (within_behind old.1 p) (Closes (Halts status))) h
puts_halt waits budget Stands May now old new input known p status behind (Err (fault.Input obstacle)) h ready = absurd h

-- a piece was put
pub puts_piece : (old mid new : Place) (s : Script) (p : Segment) (rest : Script) → Advances old mid s (Shows p rest) → PutsPiece p flow.On mid new (Ok flow.On) → Advances old new s rest
puts_piece old mid new s p rest h (inl puts) = advance_on h (advance_segment mid new p rest puts.1 puts.2)
puts_piece old mid new s p rest h (inr puts) = cc

-- a piece was not put
pub puts_stopped : (waits : Bool) (budget : ℕ) (Stands : State → Type 0) (May : Limit → State → Type 0) (now : Phase) (old mid new : Place) (input : List ℕ) (known : Option (List ℕ)) (s : Script) (p : Segment) (rest : Script) (behind : Behind) (f : Flow)
    → Advances old mid s (Shows p rest) → PutsPiece p flow.On mid new (Ok f) → (f ≡ flow.On → ⊥) → now ≡ Ready → Does waits budget Stands May now old new input known s behind (Ok f)
puts_stopped waits budget Stands May now old mid new input known s p rest behind f h (inl puts) ends ready = absurd (ends puts.0)
puts_stopped waits budget Stands May now old mid new input known s p rest behind f h (inr puts) ends ready =
    rw (puts.0, puts.1) (memory_stops waits budget Stands May now old mid s (Shows p rest) h ready)

pub puts_broken : (old mid new : Place) (s : Script) (p : Segment) (rest : Script) (e : Fault) → Advances old mid s (Shows p rest) → PutsPiece p flow.On mid new (Err e) → Fails old new s e
puts_broken old mid new s p rest fault.Output h puts = piece_breaks old mid new s p rest h puts
puts_broken old mid new s p rest (fault.Input obstacle) h puts = absurd puts
