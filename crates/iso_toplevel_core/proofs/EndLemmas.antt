-- How a toplevel begins and ends.
use Rattle.std.proofs.Common.{◌≡◌, ◌≤◌, ℕ, Bool, true, false, List, [], length, Option, Some, Result, Ok, Err, inl, inr, refl, sym, subst, arith}
use Rattle.std.specs.Io.KnownBytes.{Appends}
use Rattle.std.specs.Result.{IsErrAnd}
use Rattle.iso_model.specs.Search.Engines.{Phase, Ready, KeepsLimits, MayMeet}
use Rattle.iso_model.specs.Search.Walker.{World, State, started}
use Rattle.iso_model.specs.Session.Sessions.{Script, Closes, Done, Halts, Line, query_goal, segment_bytes, script_bytes}
use Rattle.iso_model.specs.Session.Beginnings.{Begins, Closed, Limited, Broken, Writes, EngineStops}
use Rattle.iso_model.specs.Session.Beginnings as beginnings
use Rattle.iso_model.specs.declared.limit.Limit.{Limit}
use Rattle.iso_model.specs.declared.limit.Limit.TheVariants as limit
use Rattle.iso_session_core.specs.declared.flows.Flow.{Flow}
use Rattle.iso_session_core.specs.declared.flows.Flow.TheVariants as flow
use Rattle.iso_session_core.specs.declared.statuses.Ended.{Ended}
use Rattle.iso_session_core.specs.declared.statuses.Ended.TheVariants as ended
use Rattle.iso_session_core.specs.Progress as session
use Rattle.iso_session_core.specs.Progress.{Place, Advances, PutsLine, ended_of, closing_bytes}
use Rattle.iso_session_core.proofs.ProgressLemmas.{advance_none, advance_segment}
use Rattle.iso_session_core.proofs.WrittenLemmas.{begins_before}
use Rattle.iso_session_core.proofs.EndLemmas.{all_written, all_begun, all_broken, cut_written, cut_begun, stops_by, writes_by}
use Rattle.iso_toplevel_core.specs.declared.faults.Fault.{Fault}
use Rattle.iso_toplevel_core.specs.declared.faults.Fault.TheVariants as fault
use Rattle.iso_toplevel_core.specs.Dialogues.{Behind, greeting, greeted}
use Rattle.iso_toplevel_core.specs.Progress.{StopsThere, in_text, before_query, within_query, further_on, StopsIn, ToplevelStops, ToplevelWalkStops, Fails, Does, ToplevelDoes}
use Rattle.iso_toplevel_core.specs.Screens.{LeadsOn}
use Rattle.iso_toplevel_core.proofs.PartLemmas.{memory_stops}

-- as many as before
pub as_many : (xs : List ℕ) → length xs ≤ length xs
as_many xs = omega arith

-- ---- the greeting

pub greets_line : (waits : Bool) (old new : Place) (rest : Script) (f : Flow) → waits ≡ true → PutsLine greeting flow.On old new (Ok f) → LeadsOn old new (greeted waits rest) rest (Ok f)
greets_line false old new rest f waiting puts = cc
greets_line true old new rest flow.On waiting (inl puts) = advance_segment old new (Line greeting) rest puts.1 puts.2
greets_line true old new rest flow.On waiting (inr puts) = cc
greets_line true old new rest (flow.Halts n) waiting (inl puts) = cc
greets_line true old new rest (flow.Halts n) waiting (inr puts) = cc
greets_line true old new rest (flow.Stops l) waiting (inl puts) = cc
greets_line true old new rest (flow.Stops limit.Heap) waiting (inr puts) = cc
greets_line true old new rest (flow.Stops limit.Frames) waiting (inr puts) = cc
greets_line true old new rest (flow.Stops limit.Memory) waiting (inr puts) = puts.1

pub greets_broken : (waits : Bool) (old new : Place) (rest : Script) (r : Result Flow Fault) → waits ≡ true → IsErrAnd r (λ f. f ≡ fault.Output) → Begins old.0 new.0 (segment_bytes old.1 (Line greeting)) → LeadsOn old new (greeted waits rest) rest r
greets_broken false old new rest r waiting failed b = cc
greets_broken true old new rest (Ok f) waiting failed b = absurd failed
greets_broken true old new rest (Err fault.Output) waiting failed b = begins_before old.0 new.0 (segment_bytes old.1 (Line greeting)) (script_bytes false rest) b
greets_broken true old new rest (Err (fault.Input obstacle)) waiting failed b = cc

pub greets_none : (waits : Bool) (old : Place) (rest : Script) → waits ≡ false → Advances old old (greeted waits rest) rest
greets_none true old rest silent = cc
greets_none false old rest silent = advance_none old rest

-- the greeting was not put
pub greeting_stops : (waits : Bool) (budget : ℕ) (Stands : State → Type 0) (May : Limit → State → Type 0) (now : Phase) (old new : Place) (xs : List ℕ) (known : Option (List ℕ)) (before after : Script) (behind : Behind) (f : Flow)
    → LeadsOn old new before after (Ok f) → (f ≡ flow.On → ⊥) → now ≡ Ready → Does waits budget Stands May now old new xs known before behind (Ok f)
greeting_stops waits budget Stands May now old new xs known before after behind flow.On leads off ready = absurd (off refl)
greeting_stops waits budget Stands May now old new xs known before after behind (flow.Halts n) leads off ready = absurd leads
greeting_stops waits budget Stands May now old new xs known before after behind (flow.Stops limit.Heap) leads off ready = absurd leads
greeting_stops waits budget Stands May now old new xs known before after behind (flow.Stops limit.Frames) leads off ready = absurd leads
greeting_stops waits budget Stands May now old new xs known before after behind (flow.Stops limit.Memory) leads off ready =
    rw leads (memory_stops waits budget Stands May now old old before before (advance_none old before) ready)

pub greeting_fails : (waits : Bool) (budget : ℕ) (Stands : State → Type 0) (May : Limit → State → Type 0) (now : Phase) (old new : Place) (xs : List ℕ) (known : Option (List ℕ)) (before : Script) (behind : Behind) (e : Fault) (r : Result Flow Fault)
    → IsErrAnd r (λ f. f ≡ e) → Fails old new before e → Does waits budget Stands May now old new xs known before behind r
greeting_fails waits budget Stands May now old new xs known before behind e (Ok f) failed fails = absurd failed
greeting_fails waits budget Stands May now old new xs known before behind e (Err f) failed fails = rw failed fails

-- ---- the program text

in_a_text : (waits : Bool) (budget : ℕ) (Stands : State → Type 0) (May : Limit → State → Type 0) (now : Phase) (l : Limit) (script rest : Script) → beginnings.StopsIn budget Stands May now l script rest → StopsIn waits budget Stands May now l script rest
in_a_text waits budget Stands May now l script rest h = record { at = h.at; stands = h.stands; spent = h.spent; stops = in_text h.stops }

stops_in_text : (waits : Bool) (budget : ℕ) (Stands : State → Type 0) (May : Limit → State → Type 0) (now : Phase) (script : Script) (l : Limit) (rest : Script) → EngineStops budget Stands May now script l rest → ToplevelStops waits budget Stands May now script l rest
stops_in_text waits budget Stands May now script limit.Heap rest h = in_a_text waits budget Stands May now limit.Heap script rest h
stops_in_text waits budget Stands May now script limit.Frames rest h = in_a_text waits budget Stands May now limit.Frames script rest h
stops_in_text waits budget Stands May now script limit.Memory rest (inl h) = inl (in_a_text waits budget Stands May now limit.Memory script rest h)
stops_in_text waits budget Stands May now script limit.Memory rest (inr awake) = inr awake

-- the text was not consulted to its end
pub text_stops : (waits : Bool) (budget : ℕ) (Stands : State → Type 0) (May : Limit → State → Type 0) (now : Phase) (old new : Place) (xs : List ℕ) (known : Option (List ℕ)) (script : Script) (next : World → Script) (behind : Behind) (f : Flow)
    → (f ≡ flow.On → ⊥) → session.Does budget Stands May now old new script next (Ok f) → Does waits budget Stands May now old new xs known script behind (Ok f)
text_stops waits budget Stands May now old new xs known script next behind flow.On off d = absurd (off refl)
text_stops waits budget Stands May now old new xs known script next behind (flow.Halts n) off d = d
text_stops waits budget Stands May now old new xs known script next behind (flow.Stops l) off d = record { rest = d.rest; advances = d.advances; stops = stops_in_text waits budget Stands May now script l d.rest d.stops }

pub text_breaks : (waits : Bool) (budget : ℕ) (Stands : State → Type 0) (May : Limit → State → Type 0) (now : Phase) (old new : Place) (xs : List ℕ) (known : Option (List ℕ)) (script : Script) (behind : Behind) (r : Result Flow Fault)
    → IsErrAnd r (λ f. f ≡ fault.Output) → Begins old.0 new.0 (script_bytes old.1 script) → Does waits budget Stands May now old new xs known script behind r
text_breaks waits budget Stands May now old new xs known script behind (Ok f) failed b = absurd failed
text_breaks waits budget Stands May now old new xs known script behind (Err fault.Output) failed b = b
text_breaks waits budget Stands May now old new xs known script behind (Err (fault.Input obstacle)) failed b = cc

-- ---- the end

module _ (waits : Bool) (budget : ℕ) (Stands : State → Type 0) (May : Limit → State → Type 0) (now : Phase) (script : Script) where
  abbrev P : Limit → Script → Type 0
  P = ToplevelStops waits budget Stands May now script

  closes_from : (old : Option (List ℕ)) (mid : Place) (new : Option (List ℕ)) (xs : List ℕ) (known : Option (List ℕ)) (f : Flow) (e : Ended) → Does waits budget Stands May now (old, false) mid xs known script (λ _ _. Closes Done) (Ok f) → e ≡ ended_of f
      → Appends mid.0 new (closing_bytes mid.1 f) → ToplevelDoes script P old new (Ok e)
  closes_from old mid new xs known flow.On e d is ok = rw is (all_written old mid new script Done d.advances ok)
  closes_from old mid new xs known (flow.Halts n) e d is ok = rw is (all_written old mid new script (Halts n) d ok)
  closes_from old mid new xs known (flow.Stops limit.Heap) e d is ok =
      rw is (record { gave = d.advances.gave; rest = d.rest; is = d.advances.is; bytes = cut_written old mid new script d.rest limit.Heap d.advances ok; stands = d.stops })
  closes_from old mid new xs known (flow.Stops limit.Frames) e d is ok =
      rw is (record { gave = d.advances.gave; rest = d.rest; is = d.advances.is; bytes = cut_written old mid new script d.rest limit.Frames d.advances ok; stands = d.stops })
  closes_from old mid new xs known (flow.Stops limit.Memory) e d is ok =
      rw is (record { gave = d.advances.gave; rest = d.rest; is = d.advances.is; bytes = cut_written old mid new script d.rest limit.Memory d.advances ok; stands = d.stops })

  -- the toplevel began at the start of a line, and was closed behind its last part
  pub closes : (old : Option (List ℕ)) (start mid : Place) (new : Option (List ℕ)) (xs : List ℕ) (known : Option (List ℕ)) (f : Flow) (e : Ended) → start ≡ (old, false)
      → Does waits budget Stands May now start mid xs known script (λ _ _. Closes Done) (Ok f) → e ≡ ended_of f → Appends mid.0 new (closing_bytes mid.1 f) → ToplevelDoes script P old new (Ok e)
  closes old start mid new xs known f e at d is ok =
      closes_from old mid new xs known f e (subst (λ p. Does waits budget Stands May now p mid xs known script (λ _ _. Closes Done) (Ok f)) at d) is ok

  broken_by : (old new : Option (List ℕ)) (r : Result Ended Fault) → IsErrAnd r (λ f. f ≡ fault.Output) → Writes script P old new Broken → ToplevelDoes script P old new r
  broken_by old new (Ok e) failed h = absurd failed
  broken_by old new (Err fault.Output) failed h = h
  broken_by old new (Err (fault.Input obstacle)) failed h = cc

  closing_breaks_from : (old : Option (List ℕ)) (mid : Place) (new : Option (List ℕ)) (xs : List ℕ) (known : Option (List ℕ)) (f : Flow) → Does waits budget Stands May now (old, false) mid xs known script (λ _ _. Closes Done) (Ok f)
      → Begins mid.0 new (closing_bytes mid.1 f) → Writes script P old new Broken
  closing_breaks_from old mid new xs known flow.On d b = all_begun P old mid new script Done d.advances b
  closing_breaks_from old mid new xs known (flow.Halts n) d b = all_begun P old mid new script (Halts n) d b
  closing_breaks_from old mid new xs known (flow.Stops limit.Heap) d b = cut_begun P old mid new script d.rest limit.Heap d.advances d.stops b
  closing_breaks_from old mid new xs known (flow.Stops limit.Frames) d b = cut_begun P old mid new script d.rest limit.Frames d.advances d.stops b
  closing_breaks_from old mid new xs known (flow.Stops limit.Memory) d b = cut_begun P old mid new script d.rest limit.Memory d.advances d.stops b

  -- the last line could not be written
  pub closing_breaks : (old : Option (List ℕ)) (start mid : Place) (new : Option (List ℕ)) (xs : List ℕ) (known : Option (List ℕ)) (f : Flow) (r : Result Ended Fault) → start ≡ (old, false)
      → Does waits budget Stands May now start mid xs known script (λ _ _. Closes Done) (Ok f) → IsErrAnd r (λ f. f ≡ fault.Output) → Begins mid.0 new (closing_bytes mid.1 f) → ToplevelDoes script P old new r
  closing_breaks old start mid new xs known f r at d failed b =
      broken_by old new r failed (closing_breaks_from old mid new xs known f (subst (λ p. Does waits budget Stands May now p mid xs known script (λ _ _. Closes Done) (Ok f)) at d) b)

  failed_from : (old : Option (List ℕ)) (new : Place) (e : Fault) → Fails (old, false) new script e → ToplevelDoes script P old new.0 (Err e)
  failed_from old new fault.Output h = all_broken P old new.0 script h
  failed_from old new (fault.Input obstacle) h = record { gave = h.advances.gave; rest = h.rest; is = h.advances.is; bytes = h.advances.bytes }

  -- a part failed before the toplevel was closed
  pub failed : (old : Option (List ℕ)) (start new : Place) (e : Fault) (r : Result Ended Fault) → start ≡ (old, false) → IsErrAnd r (λ f. f ≡ e) → Fails start new script e → ToplevelDoes script P old new.0 r
  failed old start new e (Ok x) at is h = absurd is
  failed old start new e (Err f) at is h = rw is (failed_from old new e (subst (λ p. Fails p new script e) at h))

-- what was written, under another name of what the writer has at the end
pub written_to : (script : Script) (Q : Limit → Script → Type 0) (old last new : Option (List ℕ)) (r : Result Ended Fault) → ToplevelDoes script Q old last r → last ≡ new → ToplevelDoes script Q old new r
written_to script Q old last new r h same = subst (λ at. ToplevelDoes script Q old at r) same h

-- where a limit may come:

stops_may : (waits : Bool) (budget : ℕ) (May Other : Limit → State → Type 0) (l : Limit) (s : State) {script rest : Script} → ((t : State) → May l t → Other l t) → StopsThere waits budget May l s script rest → StopsThere waits budget Other l s script rest
stops_may waits budget May Other l s f (in_text h) = in_text (stops_by budget May Other l s f h)
stops_may waits budget May Other l s f (before_query query w input next is refuses may) = before_query query w input next is refuses (f (started (query_goal query.term) budget w) may)
stops_may waits budget May Other l s f (within_query query w input left within answered next k gave may) = within_query query w input left within answered next k gave (f s may)
stops_may waits budget May Other l s f (further_on p h) = further_on p (stops_may waits budget May Other l s f h)

stops_kept : (waits : Bool) (budget : ℕ) (Stands : State → Type 0) (Old New : Limit → State → Type 0) (now : Phase) (script : Script) → KeepsLimits Old New → (l : Limit) (rest : Script)
    → ToplevelStops waits budget Stands New now script l rest → ToplevelStops waits budget Stands Old now script l rest
stops_kept waits budget Stands Old New now script keeps limit.Heap rest h =
    record { at = h.at; stands = h.stands; spent = h.spent; stops = stops_may waits budget New Old limit.Heap h.at (keeps limit.Heap) h.stops }
stops_kept waits budget Stands Old New now script keeps limit.Frames rest h =
    record { at = h.at; stands = h.stands; spent = h.spent; stops = stops_may waits budget New Old limit.Frames h.at (keeps limit.Frames) h.stops }
stops_kept waits budget Stands Old New now script keeps limit.Memory rest (inl h) =
    inl (record { at = h.at; stands = h.stands; spent = h.spent; stops = stops_may waits budget New Old limit.Memory h.at (keeps limit.Memory) h.stops })
stops_kept waits budget Stands Old New now script keeps limit.Memory rest (inr awake) = inr awake

pub does_by : (script : Script) (P Q : Limit → Script → Type 0) (old new : Option (List ℕ)) (r : Result Ended Fault) → ((l : Limit) (rest : Script) → P l rest → Q l rest) → ToplevelDoes script P old new r → ToplevelDoes script Q old new r
does_by script P Q old new (Ok ended.Done) f h = h
does_by script P Q old new (Ok (ended.Halt n)) f h = h
does_by script P Q old new (Ok ended.HeapFull) f h = writes_by script P Q old new (Limited limit.Heap) f h
does_by script P Q old new (Ok ended.FramesFull) f h = writes_by script P Q old new (Limited limit.Frames) f h
does_by script P Q old new (Ok ended.NoMemory) f h = writes_by script P Q old new (Limited limit.Memory) f h
does_by script P Q old new (Err fault.Output) f h = writes_by script P Q old new Broken f h
does_by script P Q old new (Err (fault.Input obstacle)) f h = h

-- the limits that ended a toplevel are those of the engine that it was given
pub does_kept : (waits : Bool) (budget : ℕ) (Stands : State → Type 0) (Old New : Limit → State → Type 0) (now : Phase) (script : Script) (old new : Option (List ℕ)) (r : Result Ended Fault) → KeepsLimits Old New
    → ToplevelDoes script (ToplevelStops waits budget Stands New now script) old new r → ToplevelDoes script (ToplevelStops waits budget Stands Old now script) old new r
does_kept waits budget Stands Old New now script old new r keeps h =
    does_by script (ToplevelStops waits budget Stands New now script) (ToplevelStops waits budget Stands Old now script) old new r (stops_kept waits budget Stands Old New now script keeps) h

-- an engine that stands for no state stopped nothing
by_memory : (waits : Bool) (budget : ℕ) (script : Script) (l : Limit) (rest : Script) → ToplevelStops waits budget (λ s. ⊥) (λ l s. ⊥) Ready script l rest → l ≡ limit.Memory
by_memory waits budget script limit.Heap rest h = absurd h.stands
by_memory waits budget script limit.Frames rest h = absurd h.stands
by_memory waits budget script limit.Memory rest h = refl

no_engine : (waits : Bool) (budget : ℕ) (start : Place) (script : Script) → Does waits budget (λ s. ⊥) (λ l s. ⊥) Ready start start [] (Some []) script (λ _ _. Closes Done) (Ok (flow.Stops limit.Memory))
no_engine waits budget start script = record { rest = script; advances = advance_none start script; stops = inr tt }

-- memory was refused before a toplevel began
pub refused : (waits : Bool) (budget : ℕ) (script : Script) (old : Option (List ℕ)) (start : Place) (new : Option (List ℕ)) (e : Ended) → start ≡ (old, false) → e ≡ ended_of (flow.Stops limit.Memory) → Appends start.0 new (closing_bytes start.1 (flow.Stops limit.Memory))
    → ToplevelDoes script (λ l rest. l ≡ limit.Memory) old new (Ok e)
refused waits budget script old start new e at is ok =
    does_by script (ToplevelStops waits budget (λ s. ⊥) (λ l s. ⊥) Ready script) (λ l rest. l ≡ limit.Memory) old new (Ok e) (by_memory waits budget script)
    (closes waits budget (λ s. ⊥) (λ l s. ⊥) Ready script old start start new [] (Some []) (flow.Stops limit.Memory) e at (no_engine waits budget start script) is ok)

pub refused_broken : (waits : Bool) (budget : ℕ) (script : Script) (old : Option (List ℕ)) (start : Place) (new : Option (List ℕ)) (r : Result Ended Fault) → start ≡ (old, false) → IsErrAnd r (λ f. f ≡ fault.Output) → Begins start.0 new (closing_bytes start.1 (flow.Stops limit.Memory))
    → ToplevelDoes script (λ l rest. l ≡ limit.Memory) old new r
refused_broken waits budget script old start new r at failed b =
    does_by script (ToplevelStops waits budget (λ s. ⊥) (λ l s. ⊥) Ready script) (λ l rest. l ≡ limit.Memory) old new r (by_memory waits budget script)
    (closing_breaks waits budget (λ s. ⊥) (λ l s. ⊥) Ready script old start start new [] (Some []) (flow.Stops limit.Memory) r at (no_engine waits budget start script) failed b)

-- what is said of the limits of an engine that names at most these pieces for its heap and its frames
walk_stops : (waits : Bool) (budget : ℕ) (HeapPieces FramesPieces : State → Type 0) (Stands : State → Type 0) (May : Limit → State → Type 0) (now : Phase) (script : Script) → KeepsLimits (MayMeet HeapPieces FramesPieces) May → (l : Limit) (rest : Script)
    → ToplevelStops waits budget Stands May now script l rest → ToplevelWalkStops waits budget HeapPieces FramesPieces script l rest
walk_stops waits budget HeapPieces FramesPieces Stands May now script keeps limit.Heap rest h = (h.at, stops_may waits budget May (MayMeet HeapPieces FramesPieces) limit.Heap h.at (keeps limit.Heap) h.stops)
walk_stops waits budget HeapPieces FramesPieces Stands May now script keeps limit.Frames rest h = (h.at, stops_may waits budget May (MayMeet HeapPieces FramesPieces) limit.Frames h.at (keeps limit.Frames) h.stops)
walk_stops waits budget HeapPieces FramesPieces Stands May now script keeps limit.Memory rest h = tt

pub does_walk : (waits : Bool) (budget : ℕ) (HeapPieces FramesPieces : State → Type 0) (Stands : State → Type 0) (May : Limit → State → Type 0) (now : Phase) (script : Script) (old new : Option (List ℕ)) (r : Result Ended Fault)
    → KeepsLimits (MayMeet HeapPieces FramesPieces) May → ToplevelDoes script (ToplevelStops waits budget Stands May now script) old new r → ToplevelDoes script (ToplevelWalkStops waits budget HeapPieces FramesPieces script) old new r
does_walk waits budget HeapPieces FramesPieces Stands May now script old new r keeps h =
    does_by script (ToplevelStops waits budget Stands May now script) (ToplevelWalkStops waits budget HeapPieces FramesPieces script) old new r (walk_stops waits budget HeapPieces FramesPieces Stands May now script keeps) h

-- memory alone ended a toplevel: so whatever pieces are named for the heap and the frames
pub does_refused : (waits : Bool) (budget : ℕ) (HeapPieces FramesPieces : State → Type 0) (script : Script) (old new : Option (List ℕ)) (r : Result Ended Fault) → ToplevelDoes script (λ l rest. l ≡ limit.Memory) old new r
    → ToplevelDoes script (ToplevelWalkStops waits budget HeapPieces FramesPieces script) old new r
does_refused waits budget HeapPieces FramesPieces script old new r h =
    does_by script (λ l rest. l ≡ limit.Memory) (ToplevelWalkStops waits budget HeapPieces FramesPieces script) old new r
    (λ l rest is. subst (λ (x : Limit). ToplevelWalkStops waits budget HeapPieces FramesPieces script x rest) (sym is) tt) h
