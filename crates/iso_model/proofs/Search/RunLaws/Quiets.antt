-- Steps, with or without an event, and the run.
use Rattle.std.proofs.Common.{◌≡◌, ◌<◌, ℕ, suc, refl, ap, ◌∙◌, arith}
use Rattle.iso_model.specs.Search.Walker.{State, World, Event, Ending, Goes, Gives, Ends, step}
use Rattle.iso_model.specs.Search.Runs.{Trace, Then, Stops, goes, gives, ends, Quiet, here, onward, Comes, Finishes, Reaches}
use Rattle.iso_model.specs.Search.RunLaws.Named.{run_of, run_of_is, run_of_only}

-- a step without an event keeps the run
pub goes_run : (s : State) {t : State} → step s ≡ Goes t → run_of s ≡ run_of t
goes_run s {t} h = run_of_only (goes h (run_of_is t))

pub gives_run : (s : State) {t : State} {e : Event} → step s ≡ Gives e t → run_of s ≡ Then e t.world (run_of t)
gives_run s {t} h = run_of_only (gives h (run_of_is t))

pub ends_run : (s : State) {e : Ending} {w : World} → step s ≡ Ends e w → run_of s ≡ Stops e w
ends_run s h = run_of_only {s = s} (ends h)

pub quiet_one : {s t : State} → step s ≡ Goes t → Quiet s t
quiet_one h = onward here h

pub quiet_trans : {s t u : State} → Quiet s t → Quiet t u → Quiet s u
quiet_trans q here = q
quiet_trans q (onward p h) = onward (quiet_trans q p) h

-- steps without an event keep the run
pub quiet_run : {s t : State} → Quiet s t → run_of s ≡ run_of t
quiet_run here = refl
quiet_run (onward q h) = quiet_run q ∙ goes_run _ h

pub comes_run : {s : State} {e : Event} {P : State → Type 0} → (c : Comes s e P) → run_of s ≡ Then e c.new.world (run_of c.new)
comes_run c = quiet_run c.quiet ∙ gives_run c.at c.last

pub finishes_run : {s : State} {e : Ending} {P : State → Type 0} → (f : Finishes s e P) → run_of s ≡ Stops e f.world
finishes_run f = quiet_run f.quiet ∙ ends_run f.at f.last

pub reaches_run : {s : State} {P : State → Type 0} → (r : Reaches s P) → run_of s ≡ run_of r.at
reaches_run r = quiet_run r.quiet

-- what comes behind steps without an event comes behind these and those before them
pub comes_behind : {s t : State} {e : Event} {P : State → Type 0} → Quiet s t → Comes t e P → Comes s e P
comes_behind q c = record { at = c.at; new = c.new; quiet = quiet_trans q c.quiet; last = c.last; stands = c.stands }

pub finishes_behind : {s t : State} {e : Ending} {P : State → Type 0} → Quiet s t → Finishes t e P → Finishes s e P
finishes_behind q f = record { at = f.at; world = f.world; quiet = quiet_trans q f.quiet; last = f.last; stands = f.stands }

pub reaches_behind : {s t : State} {P : State → Type 0} → Quiet s t → Reaches t P → Reaches s P
reaches_behind q r = record { at = r.at; quiet = quiet_trans q r.quiet; holds = r.holds }

-- how many events there are
abbrev pub trace_length : Trace → ℕ
trace_length (Then e w r) = suc (trace_length r)
trace_length (Stops e w) = 0

-- fewer events are left behind an event
pub comes_fewer : {s : State} {e : Event} {P : State → Type 0} → (c : Comes s e P) → trace_length (run_of c.new) < trace_length (run_of s)
comes_fewer c = let longer = ap trace_length (comes_run c) in omega arith
