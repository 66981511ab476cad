-- How parts of a session follow each other in its script.
use Rattle.std.proofs.Common.{◌≡◌, ℕ, Bool, false, List, [], ◌∷◌, ◌++◌, Option, Result, Ok, Err, inl, inr, refl, sym, ap, ◌∙◌, append_assoc, append-nil}
use Rattle.std.specs.Io.KnownBytes.{Appends}
use Rattle.std.specs.Result.{IsErr}
use Rattle.iso_model.specs.Search.Engines.{Phase, Ready, Midway, IsAwake, HoldsWhereItIs, KeepsLimits}
use Rattle.iso_model.specs.Search.Walker.{World, State}
use Rattle.iso_model.specs.Session.Sessions as sessions
use Rattle.iso_model.specs.Session.Sessions.{Segment, Line, Script, Shows, Closes, Halts, prepend, segment_bytes, within_behind, segments_bytes, script_bytes}
use Rattle.iso_model.specs.Session.Beginnings.{Begins, EngineStops, StopsIn, further_on}
use Rattle.iso_model.specs.declared.limit.Limit.{Limit}
use Rattle.iso_model.specs.declared.limit.Limit.TheVariants as limit
use Rattle.iso_session_core.specs.declared.flows.Flow.{Flow}
use Rattle.iso_session_core.specs.declared.flows.Flow.TheVariants as flow
use Rattle.iso_session_core.specs.declared.statuses.Fault.{Fault}
use Rattle.iso_session_core.specs.Progress.{Place, within_after, Advances, Stops, Does, PutsLine}
use Rattle.iso_session_core.proofs.WrittenLemmas.{appends_none, appends_more, begins_behind, begins_before}

pub segments_bytes-append : (within : Bool) (ps qs : List Segment) → segments_bytes within (ps ++ qs) ≡ segments_bytes within ps ++ segments_bytes (within_after within ps) qs
segments_bytes-append within [] qs = refl
segments_bytes-append within (p ∷ ps) qs =
    let later = within_behind within p in
    ap (λ z. segment_bytes within p ++ z) (segments_bytes-append later ps qs) ∙ sym (append_assoc (segment_bytes within p) (segments_bytes later ps) (segments_bytes (within_after later ps) qs))

within_after-append : (within : Bool) (ps qs : List Segment) → within_after within (ps ++ qs) ≡ within_after (within_after within ps) qs
within_after-append within [] qs = refl
within_after-append within (p ∷ ps) qs = within_after-append (within_behind within p) ps qs

prepend-append : (ps qs : List Segment) (s : Script) → prepend (ps ++ qs) s ≡ prepend ps (prepend qs s)
prepend-append [] qs s = refl
prepend-append (p ∷ ps) qs s = ap (Shows p) (prepend-append ps qs s)

pub script_bytes-prepend : (within : Bool) (ps : List Segment) (s : Script) → script_bytes within (prepend ps s) ≡ segments_bytes within ps ++ script_bytes (within_after within ps) s
script_bytes-prepend within [] s = refl
script_bytes-prepend within (p ∷ ps) s =
    let later = within_behind within p in
    ap (λ z. segment_bytes within p ++ z) (script_bytes-prepend later ps s) ∙ sym (append_assoc (segment_bytes within p) (segments_bytes later ps) (script_bytes (within_after later ps) s))

-- nothing was written
pub advance_none : (old : Place) (s : Script) → Advances old old s s
advance_none old s = record { gave = []; bytes = appends_none old.0; within = refl; is = refl }

pub advance_on : {old mid new : Place} {s t u : Script} → Advances old mid s t → Advances mid new t u → Advances old new s u
advance_on {old} {mid} {new} {s} {t} {u} h k = record {
  gave = h.gave ++ k.gave;
  bytes = rw (segments_bytes-append old.1 h.gave k.gave, ← h.within) (appends_more old.0 mid.0 new.0 (segments_bytes old.1 h.gave) (segments_bytes mid.1 k.gave) h.bytes k.bytes);
  within = k.within ∙ ap (λ w. within_after w k.gave) h.within ∙ sym (within_after-append old.1 h.gave k.gave);
  is = h.is ∙ ap (prepend h.gave) k.is ∙ sym (prepend-append h.gave k.gave u);
}

-- one piece was written
pub advance_segment : (old new : Place) (p : Segment) (rest : Script) → Appends old.0 new.0 (segment_bytes old.1 p) → new.1 ≡ within_behind old.1 p → Advances old new (Shows p rest) rest
advance_segment old new p rest bytes within = record {
  gave = p ∷ [];
  bytes = rw (append-nil (segment_bytes old.1 p)) bytes;
  within = within;
  is = refl;
}

-- a run begins, which writes nothing
pub advance_run : (old : Place) (runs : ℕ) (rest : Script) → Advances old old (Shows (sessions.Begins runs) rest) rest
advance_run old runs rest = record { gave = sessions.Begins runs ∷ []; bytes = appends_none old.0; within = refl; is = refl }

-- a beginning of what is left, behind what was written
pub begins_on : {old mid : Place} {s t : Script} (new : Option (List ℕ)) → Advances old mid s t → Begins mid.0 new (script_bytes mid.1 t) → Begins old.0 new (script_bytes old.1 s)
begins_on {old} {mid} {s} {t} new h k =
    let whole = ap (script_bytes old.1) h.is ∙ script_bytes-prepend old.1 h.gave t ∙ ap (λ w. segments_bytes old.1 h.gave ++ script_bytes w t) (sym h.within) in
    rw whole (begins_behind old.0 mid.0 new (segments_bytes old.1 h.gave) (script_bytes mid.1 t) h.bytes k)

-- an engine stopped further on, behind what was written
engine_stops-behind : (budget : ℕ) (Stands : State → Type 0) (May : Limit → State → Type 0) (now : Phase) (l : Limit) (ps : List Segment) {script rest : Script}
    → StopsIn budget Stands May now l script rest → StopsIn budget Stands May now l (prepend ps script) rest
engine_stops-behind budget Stands May now l [] h = h
engine_stops-behind budget Stands May now l (p ∷ ps) h =
    let later = engine_stops-behind budget Stands May now l ps h in
    record { at = later.at; stands = later.stands; spent = later.spent; stops = further_on p later.stops }

engine_stops-after : (budget : ℕ) (Stands : State → Type 0) (May : Limit → State → Type 0) (now : Phase) (l : Limit) {old mid : Place} {s t : Script} (rest : Script) → Advances old mid s t
    → EngineStops budget Stands May now t l rest → EngineStops budget Stands May now s l rest
engine_stops-after budget Stands May now limit.Heap rest h stops = rw h.is (engine_stops-behind budget Stands May now limit.Heap h.gave stops)
engine_stops-after budget Stands May now limit.Frames rest h stops = rw h.is (engine_stops-behind budget Stands May now limit.Frames h.gave stops)
engine_stops-after budget Stands May now limit.Memory rest h (inl stops) = inl (rw h.is (engine_stops-behind budget Stands May now limit.Memory h.gave stops))
engine_stops-after budget Stands May now limit.Memory rest h (inr awake) = inr awake

-- what a part does behind what was written
pub does_after : (budget : ℕ) (Stands : State → Type 0) (May : Limit → State → Type 0) (now : Phase) (old mid new : Place) (s t : Script) (behind : World → Script) (r : Result Flow Fault)
    → Advances old mid s t → Does budget Stands May now mid new t behind r → Does budget Stands May now old new s behind r
does_after budget Stands May now old mid new s t behind (Ok flow.On) h d = record { at = d.at; stands = d.stands; ready = d.ready; advances = advance_on h d.advances }
does_after budget Stands May now old mid new s t behind (Ok (flow.Halts n)) h d = advance_on h d
does_after budget Stands May now old mid new s t behind (Ok (flow.Stops l)) h d = record { rest = d.rest; advances = advance_on h d.advances; stops = engine_stops-after budget Stands May now l d.rest h d.stops }
does_after budget Stands May now old mid new s t behind (Err e) h d = begins_on new.0 h d

pub ready_awake : (now : Phase) → now ≡ Ready → IsAwake now
ready_awake now ready = rw ready tt

-- an engine that met no limit is where it stands
pub where_ready : (now : Phase) (s : State) (P : State → Type 0) → now ≡ Ready → HoldsWhereItIs now s P → P s
where_ready now s P ready h = rw ready at h

pub midway_awake : (now : Phase) → now ≡ Midway → IsAwake now
midway_awake now midway = rw midway tt

-- memory was refused where nothing was written
pub stops_here : (budget : ℕ) (Stands : State → Type 0) (May : Limit → State → Type 0) (now : Phase) (old : Place) (script : Script) → now ≡ Ready → Stops budget Stands May now limit.Memory old old script
stops_here budget Stands May now old script ready = record { rest = script; advances = advance_none old script; stops = inr (ready_awake now ready) }

stops_same : (budget : ℕ) (Stands : State → Type 0) (May : Limit → State → Type 0) (now : Phase) (old new : Place) (script : Script) → now ≡ Ready → new ≡ old → Stops budget Stands May now limit.Memory old new script
stops_same budget Stands May now old new script ready same = rw same (stops_here budget Stands May now old script ready)

-- a line was written, or memory for it was refused, and the session goes on where an engine stands for a state over this world
pub puts_on : (budget : ℕ) (Stands : State → Type 0) (May : Limit → State → Type 0) (now : Phase) (old new : Place) (text : List ℕ) (at : State) (behind : World → Script) (r : Result Flow Fault)
    → PutsLine text flow.On old new r → Stands at → now ≡ Ready → Does budget Stands May now old new (Shows (Line text) (behind at.world)) behind r
puts_on budget Stands May now old new text at behind (Ok flow.On) (inl p) stands ready =
    record { at = at; stands = stands; ready = ready; advances = advance_segment old new (Line text) (behind at.world) p.1 p.2 }
puts_on budget Stands May now old new text at behind (Ok flow.On) (inr p) stands ready = cc
puts_on budget Stands May now old new text at behind (Ok (flow.Halts n)) (inl p) stands ready = cc
puts_on budget Stands May now old new text at behind (Ok (flow.Halts n)) (inr p) stands ready = cc
puts_on budget Stands May now old new text at behind (Ok (flow.Stops l)) (inl p) stands ready = cc
puts_on budget Stands May now old new text at behind (Ok (flow.Stops limit.Heap)) (inr p) stands ready = cc
puts_on budget Stands May now old new text at behind (Ok (flow.Stops limit.Frames)) (inr p) stands ready = cc
puts_on budget Stands May now old new text at behind (Ok (flow.Stops limit.Memory)) (inr p) stands ready = stops_same budget Stands May now old new (Shows (Line text) (behind at.world)) ready p.1
puts_on budget Stands May now old new text at behind (Err e) p stands ready = begins_before old.0 new.0 (segment_bytes old.1 (Line text)) (script_bytes false (behind at.world)) p

-- a line was written, or memory for it was refused, that ends the script
pub puts_halt : (budget : ℕ) (Stands : State → Type 0) (May : Limit → State → Type 0) (now : Phase) (old new : Place) (text : List ℕ) (status : ℕ) (behind : World → Script) (r : Result Flow Fault)
    → PutsLine text (flow.Halts status) old new r → now ≡ Ready → Does budget Stands May now old new (Shows (Line text) (Closes (Halts status))) behind r
puts_halt budget Stands May now old new text status behind (Ok flow.On) (inl p) ready = cc
puts_halt budget Stands May now old new text status behind (Ok flow.On) (inr p) ready = cc
puts_halt budget Stands May now old new text status behind (Ok (flow.Halts n)) (inl p) ready =
    let same : n ≡ status = cc in
    rw same (advance_segment old new (Line text) (Closes (Halts status)) p.1 p.2)
puts_halt budget Stands May now old new text status behind (Ok (flow.Halts n)) (inr p) ready = cc
puts_halt budget Stands May now old new text status behind (Ok (flow.Stops l)) (inl p) ready = cc
puts_halt budget Stands May now old new text status behind (Ok (flow.Stops limit.Heap)) (inr p) ready = cc
puts_halt budget Stands May now old new text status behind (Ok (flow.Stops limit.Frames)) (inr p) ready = cc
puts_halt budget Stands May now old new text status behind (Ok (flow.Stops limit.Memory)) (inr p) ready = stops_same budget Stands May now old new (Shows (Line text) (Closes (Halts status))) ready p.1
puts_halt budget Stands May now old new text status behind (Err e) p ready = begins_before old.0 new.0 (segment_bytes old.1 (Line text)) [] p

-- a part that doesn't go on, behind what was written
pub stops_after : (budget : ℕ) (Stands : State → Type 0) (May : Limit → State → Type 0) (now : Phase) (old mid new : Place) (s t : Script) (behind other : World → Script) (f : Flow)
    → Advances old mid s t → (f ≡ flow.On → ⊥) → Does budget Stands May now mid new t behind (Ok f) → Does budget Stands May now old new s other (Ok f)
stops_after budget Stands May now old mid new s t behind other flow.On h ends d = absurd (ends refl)
stops_after budget Stands May now old mid new s t behind other (flow.Halts n) h ends d = advance_on h d
stops_after budget Stands May now old mid new s t behind other (flow.Stops l) h ends d = record { rest = d.rest; advances = advance_on h d.advances; stops = engine_stops-after budget Stands May now l d.rest h d.stops }

-- a write failed behind what was written
pub breaks_after : (budget : ℕ) (Stands : State → Type 0) (May : Limit → State → Type 0) (now : Phase) (old mid new : Place) (s t : Script) (behind : World → Script) (r : Result Flow Fault)
    → Advances old mid s t → IsErr r → Begins mid.0 new.0 (script_bytes mid.1 t) → Does budget Stands May now old new s behind r
breaks_after budget Stands May now old mid new s t behind (Ok f) h failed b = cc
breaks_after budget Stands May now old mid new s t behind (Err e) h failed b = begins_on new.0 h b

-- limits that come from a part come from what was before it
pub keeps_limits-both : (Old Mid New : Limit → State → Type 0) → KeepsLimits Old Mid → KeepsLimits Mid New → KeepsLimits Old New
keeps_limits-both Old Mid New h k l s m = h l s (k l s m)
