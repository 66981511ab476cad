-- How a session ends.
use Rattle.std.proofs.Common.{◌≡◌, ℕ, Bool, false, List, [], ◌∷◌, ◌++◌, Option, Result, Ok, Err, IfOk, OnOk, OnErr, inl, inr, refl, sym, ap, subst, ◌∙◌, append-nil}
use Rattle.std.specs.Io.KnownBytes.{Appends}
use Rattle.std.specs.Result.{IsErr}
use Rattle.iso_model.specs.Search.Engines.{Phase, Ready, MayMeet, KeepsLimits}
use Rattle.iso_model.specs.Search.Walker.{State, started}
use Rattle.iso_model.specs.Session.Sessions.{Segment, Line, Script, Closes, Done, Halts, SessionEnd, prepend, segment_bytes, segments_bytes, script_bytes, script_end, query_goal}
use Rattle.iso_model.specs.Session.Beginnings.{Begins, IsWritten, whole, cut, cut_text, limit_line, IsBroken, Writes, StopsAt, before_run, within_run, before_directive, within_directive, further_on, EngineStops, WalkStops, SessionOutcome, Closed, Limited, Broken}
use Rattle.iso_model.specs.declared.limit.Limit.{Limit}
use Rattle.iso_model.specs.declared.limit.Limit.TheVariants as limit
use Rattle.iso_session_core.specs.declared.flows.Flow.{Flow}
use Rattle.iso_session_core.specs.declared.flows.Flow.TheVariants as flow
use Rattle.iso_session_core.specs.declared.statuses.Ended.{Ended}
use Rattle.iso_session_core.specs.declared.statuses.Fault.{Fault}
use Rattle.iso_session_core.specs.Progress.{Place, outcome_of, within_after, Advances, Does, ended_of, closing_bytes}
use Rattle.iso_session_core.proofs.WrittenLemmas.{appends_more, begins_behind}
use Rattle.iso_session_core.proofs.ProgressLemmas.{segments_bytes-append, script_bytes-prepend, stops_here}

script_end-prepend : (ps : List Segment) (s : Script) → script_end (prepend ps s) ≡ script_end s
script_end-prepend [] s = refl
script_end-prepend (p ∷ ps) s = script_end-prepend ps s

-- all pieces of a script that is at its end
whole_bytes : (within : Bool) (ps : List Segment) (ending : SessionEnd) (s : Script) → s ≡ prepend ps (Closes ending) → script_bytes within s ≡ segments_bytes within ps
whole_bytes within ps ending s is = ap (script_bytes within) is ∙ script_bytes-prepend within ps (Closes ending) ∙ append-nil (segments_bytes within ps)

-- the session wrote its text
pub all_written : (old : Option (List ℕ)) (mid : Place) (new : Option (List ℕ)) (script : Script) (ending : SessionEnd)
    → Advances (old, false) mid script (Closes ending) → Appends mid.0 new [] → Appends old new (script_bytes false script) × (ending ≡ script_end script)
all_written old mid new script ending h none =
    let bytes = appends_more old mid.0 new (segments_bytes false h.gave) [] h.bytes none in
    let same = whole_bytes false h.gave ending script h.is ∙ sym (append-nil (segments_bytes false h.gave)) in
    (rw same bytes, sym (ap script_end h.is ∙ script_end-prepend h.gave (Closes ending)))

cut_bytes : (gave : List Segment) (l : Limit) → cut_text gave l ≡ segments_bytes false gave ++ segment_bytes (within_after false gave) (Line (limit_line l))
cut_bytes gave l =
    segments_bytes-append false gave (Line (limit_line l) ∷ [])
    ∙ ap (λ z. segments_bytes false gave ++ z) (append-nil (segment_bytes (within_after false gave) (Line (limit_line l))))

-- a limit's line was written behind what was given
pub cut_written : (old : Option (List ℕ)) (mid : Place) (new : Option (List ℕ)) (script rest : Script) (l : Limit)
    → (h : Advances (old, false) mid script rest) → Appends mid.0 new (segment_bytes mid.1 (Line (limit_line l))) → Appends old new (cut_text h.gave l)
cut_written old mid new script rest l h line =
    let there = subst (λ w. Appends mid.0 new (segment_bytes w (Line (limit_line l)))) h.within line in
    rw (cut_bytes h.gave l) (appends_more old mid.0 new (segments_bytes false h.gave) (segment_bytes (within_after false h.gave) (Line (limit_line l))) h.bytes there)

pub cut_begun : (P : Limit → Script → Type 0) (old : Option (List ℕ)) (mid : Place) (new : Option (List ℕ)) (script rest : Script) (l : Limit)
    → (h : Advances (old, false) mid script rest) → P l rest → Begins mid.0 new (segment_bytes mid.1 (Line (limit_line l))) → IsBroken script P old new
cut_begun P old mid new script rest l h stops line =
    let there = subst (λ w. Begins mid.0 new (segment_bytes w (Line (limit_line l)))) h.within line in
    record {
      text = cut_text h.gave l;
      would = cut h.gave rest h.is l stops;
      begins = rw (cut_bytes h.gave l) (begins_behind old mid.0 new (segments_bytes false h.gave) (segment_bytes (within_after false h.gave) (Line (limit_line l))) h.bytes there);
    }

pub all_broken : (P : Limit → Script → Type 0) (old new : Option (List ℕ)) (script : Script) → Begins old new (script_bytes false script) → IsBroken script P old new
all_broken P old new script b = record { text = script_bytes false script; would = whole; begins = b }

pub all_begun : (P : Limit → Script → Type 0) (old : Option (List ℕ)) (mid : Place) (new : Option (List ℕ)) (script : Script) (ending : SessionEnd)
    → Advances (old, false) mid script (Closes ending) → Begins mid.0 new [] → IsBroken script P old new
all_begun P old mid new script ending h none =
    let same = whole_bytes false h.gave ending script h.is ∙ sym (append-nil (segments_bytes false h.gave)) in
    all_broken P old new script (rw same (begins_behind old mid.0 new (segments_bytes false h.gave) [] h.bytes none))

-- the session began at the start of a line, and was closed behind its last part
closes_from : (budget : ℕ) (Stands : State → Type 0) (May : Limit → State → Type 0) (now : Phase) (old : Option (List ℕ)) (mid : Place) (new : Option (List ℕ)) (script : Script) (f : Flow) (r : Result Ended Fault)
    → Does budget Stands May now (old, false) mid script (λ _. Closes Done) (Ok f) → IfOk r (λ e. e ≡ ended_of f)
    → OnOk r (Appends mid.0 new (closing_bytes mid.1 f)) → OnErr r (Begins mid.0 new (closing_bytes mid.1 f))
    → Writes script (EngineStops budget Stands May now script) old new (outcome_of r)
closes_from budget Stands May now old mid new script flow.On (Ok e) d is ok err = rw is (all_written old mid new script Done d.advances ok)
closes_from budget Stands May now old mid new script (flow.Halts n) (Ok e) d is ok err = rw is (all_written old mid new script (Halts n) d ok)
closes_from budget Stands May now old mid new script (flow.Stops limit.Heap) (Ok e) d is ok err =
    rw is (record { gave = d.advances.gave; rest = d.rest; is = d.advances.is; bytes = cut_written old mid new script d.rest limit.Heap d.advances ok; stands = d.stops })
closes_from budget Stands May now old mid new script (flow.Stops limit.Frames) (Ok e) d is ok err =
    rw is (record { gave = d.advances.gave; rest = d.rest; is = d.advances.is; bytes = cut_written old mid new script d.rest limit.Frames d.advances ok; stands = d.stops })
closes_from budget Stands May now old mid new script (flow.Stops limit.Memory) (Ok e) d is ok err =
    rw is (record { gave = d.advances.gave; rest = d.rest; is = d.advances.is; bytes = cut_written old mid new script d.rest limit.Memory d.advances ok; stands = d.stops })
closes_from budget Stands May now old mid new script flow.On (Err e) d is ok err = all_begun (EngineStops budget Stands May now script) old mid new script Done d.advances err
closes_from budget Stands May now old mid new script (flow.Halts n) (Err e) d is ok err = all_begun (EngineStops budget Stands May now script) old mid new script (Halts n) d err
closes_from budget Stands May now old mid new script (flow.Stops limit.Heap) (Err e) d is ok err = cut_begun (EngineStops budget Stands May now script) old mid new script d.rest limit.Heap d.advances d.stops err
closes_from budget Stands May now old mid new script (flow.Stops limit.Frames) (Err e) d is ok err = cut_begun (EngineStops budget Stands May now script) old mid new script d.rest limit.Frames d.advances d.stops err
closes_from budget Stands May now old mid new script (flow.Stops limit.Memory) (Err e) d is ok err = cut_begun (EngineStops budget Stands May now script) old mid new script d.rest limit.Memory d.advances d.stops err

-- the same, where the place that the session began at is the start of a line
pub closes : (budget : ℕ) (Stands : State → Type 0) (May : Limit → State → Type 0) (now : Phase) (old : Option (List ℕ)) (start mid : Place) (new : Option (List ℕ)) (script : Script) (f : Flow) (r : Result Ended Fault) → start ≡ (old, false)
    → Does budget Stands May now start mid script (λ _. Closes Done) (Ok f) → IfOk r (λ e. e ≡ ended_of f)
    → OnOk r (Appends mid.0 new (closing_bytes mid.1 f)) → OnErr r (Begins mid.0 new (closing_bytes mid.1 f))
    → Writes script (EngineStops budget Stands May now script) old new (outcome_of r)
closes budget Stands May now old start mid new script f r at d is ok err =
    closes_from budget Stands May now old mid new script f r (subst (λ p. Does budget Stands May now p mid script (λ _. Closes Done) (Ok f)) at d) is ok err

-- a write failed before the session was closed, which began at the start of a line
pub breaks : (P : Limit → Script → Type 0) (old new : Option (List ℕ)) (start : Place) (script : Script) (r : Result Ended Fault) → start ≡ (old, false)
    → IsErr r → Begins start.0 new (script_bytes start.1 script) → Writes script P old new (outcome_of r)
breaks P old new start script (Ok e) began failed b = cc
breaks P old new start script (Err e) began failed b = all_broken P old new script (subst (λ p. Begins p.0 new (script_bytes p.1 script)) began b)

-- where a limit may come:

pub stops_by : (budget : ℕ) (May Other : Limit → State → Type 0) (l : Limit) (s : State) {script rest : Script} → ((t : State) → May l t → Other l t)
    → StopsAt budget May l s script rest → StopsAt budget Other l s script rest
stops_by budget May Other l s f (before_run query w next is refuses may) = before_run query w next is refuses (f (started (query_goal query.term) budget w) may)
stops_by budget May Other l s f (within_run query w next k gave may) = within_run query w next k gave (f s may)
stops_by budget May Other l s f (before_directive k goal w next is refuses may) = before_directive k goal w next is refuses (f (started goal budget w) may)
stops_by budget May Other l s f (within_directive k goal w next gave may) = within_directive k goal w next gave (f s may)
stops_by budget May Other l s f (further_on p stops) = further_on p (stops_by budget May Other l s f stops)

-- a limit that ended a session may come in these pieces, where it came in some of them
engine_stops-kept : (budget : ℕ) (Stands : State → Type 0) (Old New : Limit → State → Type 0) (now : Phase) (script : Script) → KeepsLimits Old New → (l : Limit) (rest : Script)
    → EngineStops budget Stands New now script l rest → EngineStops budget Stands Old now script l rest
engine_stops-kept budget Stands Old New now script keeps limit.Heap rest h =
    record { at = h.at; stands = h.stands; spent = h.spent; stops = stops_by budget New Old limit.Heap h.at (keeps limit.Heap) h.stops }
engine_stops-kept budget Stands Old New now script keeps limit.Frames rest h =
    record { at = h.at; stands = h.stands; spent = h.spent; stops = stops_by budget New Old limit.Frames h.at (keeps limit.Frames) h.stops }
engine_stops-kept budget Stands Old New now script keeps limit.Memory rest (inl h) =
    inl (record { at = h.at; stands = h.stands; spent = h.spent; stops = stops_by budget New Old limit.Memory h.at (keeps limit.Memory) h.stops })
engine_stops-kept budget Stands Old New now script keeps limit.Memory rest (inr awake) = inr awake

pub written_by : {script : Script} {P Q : Limit → Script → Type 0} {text : List ℕ} → ((l : Limit) (rest : Script) → P l rest → Q l rest) → IsWritten script P text → IsWritten script Q text
written_by f whole = whole
written_by f (cut gave rest is l stops) = cut gave rest is l (f l rest stops)

pub writes_by : (script : Script) (P Q : Limit → Script → Type 0) (old new : Option (List ℕ)) (outcome : SessionOutcome) → ((l : Limit) (rest : Script) → P l rest → Q l rest)
    → Writes script P old new outcome → Writes script Q old new outcome
writes_by script P Q old new (Closed ending) f h = h
writes_by script P Q old new (Limited l) f h = record { gave = h.gave; rest = h.rest; is = h.is; bytes = h.bytes; stands = f l h.rest h.stands }
writes_by script P Q old new Broken f h = record { text = h.text; would = written_by f h.would; begins = h.begins }

-- the limits that ended a session are those of the engine that it was given
pub writes_kept : (budget : ℕ) (Stands : State → Type 0) (Old New : Limit → State → Type 0) (now : Phase) (script : Script) (old new : Option (List ℕ)) (outcome : SessionOutcome) → KeepsLimits Old New
    → Writes script (EngineStops budget Stands New now script) old new outcome → Writes script (EngineStops budget Stands Old now script) old new outcome
writes_kept budget Stands Old New now script old new outcome keeps h =
    writes_by script (EngineStops budget Stands New now script) (EngineStops budget Stands Old now script) old new outcome (engine_stops-kept budget Stands Old New now script keeps) h

-- what is said of the limits of an engine that names at most these pieces for its heap and its frames
walk_stops : (budget : ℕ) (HeapPieces FramesPieces : State → Type 0) (Stands : State → Type 0) (May : Limit → State → Type 0) (now : Phase) (script : Script) → KeepsLimits (MayMeet HeapPieces FramesPieces) May → (l : Limit) (rest : Script)
    → EngineStops budget Stands May now script l rest → WalkStops budget HeapPieces FramesPieces script l rest
walk_stops budget HeapPieces FramesPieces Stands May now script keeps limit.Heap rest h =
    (h.at, stops_by budget May (MayMeet HeapPieces FramesPieces) limit.Heap h.at (keeps limit.Heap) h.stops)
walk_stops budget HeapPieces FramesPieces Stands May now script keeps limit.Frames rest h =
    (h.at, stops_by budget May (MayMeet HeapPieces FramesPieces) limit.Frames h.at (keeps limit.Frames) h.stops)
walk_stops budget HeapPieces FramesPieces Stands May now script keeps limit.Memory rest h = tt

pub writes_walk : (budget : ℕ) (HeapPieces FramesPieces : State → Type 0) (Stands : State → Type 0) (May : Limit → State → Type 0) (now : Phase) (script : Script) (old new : Option (List ℕ)) (outcome : SessionOutcome)
    → KeepsLimits (MayMeet HeapPieces FramesPieces) May → Writes script (EngineStops budget Stands May now script) old new outcome → Writes script (WalkStops budget HeapPieces FramesPieces script) old new outcome
writes_walk budget HeapPieces FramesPieces Stands May now script old new outcome keeps h =
    writes_by script (EngineStops budget Stands May now script) (WalkStops budget HeapPieces FramesPieces script) old new outcome (walk_stops budget HeapPieces FramesPieces Stands May now script keeps) h

-- what was written, under another name of what the writer has at the end
pub written_to : (script : Script) (P : Limit → Script → Type 0) (old last new : Option (List ℕ)) (outcome : SessionOutcome) → Writes script P old last outcome → last ≡ new → Writes script P old new outcome
written_to script P old last new outcome h same = subst (λ at. Writes script P old at outcome) same h

-- an engine that stands for no state stopped nothing
by_memory : (budget : ℕ) (script : Script) (l : Limit) (rest : Script) → EngineStops budget (λ s. ⊥) (λ l s. ⊥) Ready script l rest → l ≡ limit.Memory
by_memory budget script limit.Heap rest h = absurd h.stands
by_memory budget script limit.Frames rest h = absurd h.stands
by_memory budget script limit.Memory rest h = refl

-- memory was refused before a session began
pub refused_session : (budget : ℕ) (script : Script) (old new : Option (List ℕ)) (start : Place) (r : Result Ended Fault) → start ≡ (old, false) → IfOk r (λ e. e ≡ ended_of (flow.Stops limit.Memory))
    → OnOk r (Appends start.0 new (closing_bytes start.1 (flow.Stops limit.Memory))) → OnErr r (Begins start.0 new (closing_bytes start.1 (flow.Stops limit.Memory)))
    → Writes script (λ l rest. l ≡ limit.Memory) old new (outcome_of r)
refused_session budget script old new start r at is ok err =
    let stops : Does budget (λ s. ⊥) (λ l s. ⊥) Ready start start script (λ w. Closes Done) (Ok (flow.Stops limit.Memory)) =
    stops_here budget (λ s. ⊥) (λ l s. ⊥) Ready start script refl in
    writes_by script (EngineStops budget (λ s. ⊥) (λ l s. ⊥) Ready script) (λ l rest. l ≡ limit.Memory) old new (outcome_of r) (by_memory budget script)
    (closes budget (λ s. ⊥) (λ l s. ⊥) Ready old start start new script (flow.Stops limit.Memory) r at stops is ok err)

-- memory alone ended a session: so whatever pieces are named for the heap and the frames
pub writes_refused : (budget : ℕ) (HeapPieces FramesPieces : State → Type 0) (script : Script) (old new : Option (List ℕ)) (outcome : SessionOutcome) → Writes script (λ l rest. l ≡ limit.Memory) old new outcome
    → Writes script (WalkStops budget HeapPieces FramesPieces script) old new outcome
writes_refused budget HeapPieces FramesPieces script old new outcome h =
    writes_by script (λ l rest. l ≡ limit.Memory) (WalkStops budget HeapPieces FramesPieces script) old new outcome (λ l rest is. subst (λ (x : Limit). WalkStops budget HeapPieces FramesPieces script x rest) (sym is) tt) h
