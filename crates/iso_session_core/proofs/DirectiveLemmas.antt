-- What runs of directives come to.
use Rattle.std.proofs.Common.{◌≡◌, ℕ, suc, ◌+◌, ◌≤◌, ◌<◌, true, List, [], ◌∷◌, ◌++◌, length, map, drop, drop-cons, add-one, get_or, codes, Option, Result, Ok, Vec, Global, inl, inr, refl, sym, ap, ap₂, subst, ◌∙◌}
use Rattle.std.proofs.lemmas.List.{drop_all}
use Rattle.std.specs.Result.{IsErr}
use Rattle.std.specs.Io.KnownBytes.{Appends}
use Rattle.iso_ops.specs.Operators.{Operator}
use Rattle.iso_model.specs.Terms.Trees.{Tree, arities_fit}
use Rattle.iso_model.specs.Terms.Copies.{IsNumbered}
use Rattle.iso_model.specs.Terms.TermOf.{term_of}
use Rattle.iso_model.specs.Search.Engines.{Phase, Ready, Spent, HoldsWhereItIs, Pauses, MeetsLimit}
use Rattle.iso_model.specs.Session.Lines.{counted, text_of, directive_failed_line, directive_refused_line, directive_stopped_line, halt_line}
use Rattle.iso_model.specs.Session.Directives.{Kept}
use Rattle.iso_model.specs.Search.Walker.{World, State, Ending, Answered, Wrote, NoMore, Budget, Uncaught, idle, started}
use Rattle.iso_model.specs.Search.Runs as runs
use Rattle.iso_model.specs.Search.Runs.{HasGiven, begun, gave_output, Comes, Finishes}
use Rattle.iso_model.specs.Search.RunLaws.{run_of}
use Rattle.iso_model.proofs.Search.RunLaws.Quiets.{comes_run, finishes_run}
use Rattle.iso_model.specs.Session.Sessions.{ends_within, script_bytes, Script, Shows, Line, Output, directive_script, goal_script, kept_script}
use Rattle.iso_model.specs.Session.Beginnings.{Begins, MayRefuse, EngineStops, StopsIn, within_directive, before_directive}
use Rattle.iso_model.specs.declared.terms.Term.{Term}
use Rattle.iso_model.specs.declared.limit.Limit.{Limit}
use Rattle.iso_model.specs.declared.limit.Limit.TheVariants as limit
use Rattle.iso_model.specs.declared.pauses.Pause.{Pause}
use Rattle.iso_model.specs.declared.pauses.Pause.TheVariants as pause
use Rattle.iso_session_core.specs.declared.directives.Kept.{Kept as RustKept}
use Rattle.iso_session_core.specs.declared.flows.Flow.{Flow}
use Rattle.iso_session_core.specs.declared.flows.Flow.TheVariants as flow
use Rattle.iso_session_core.specs.declared.statuses.Fault.{Fault}
use Rattle.iso_session_core.specs.Directed.{AreKept}
use Rattle.iso_session_core.specs.Progress.{Place, Advances, GoesOn, Stops, Does, PutsLine, EndsDirective, IsCount}
use Rattle.iso_session_core.proofs.WrittenLemmas.{begins_before}
use Rattle.iso_session_core.proofs.ConsultLemmas.{counted_same}
use Rattle.iso_session_core.proofs.QueryLemmas.{limit_ends}
use Rattle.iso_session_core.proofs.ProgressLemmas.{advance_none, advance_run, advance_on, advance_segment, puts_on, puts_halt, does_after, breaks_after, stops_after, where_ready}

abbrev failed_by : List ℕ → List ℕ
failed_by number = codes "directive " ++ (number ++ codes " failed")

abbrev stopped_by : List ℕ → List ℕ
stopped_by number = codes "directive " ++ (number ++ codes " stopped: budget")

abbrev refused_by : List Operator → Tree → List ℕ → List ℕ
refused_by table ball number = codes "directive " ++ (number ++ (codes " refused: " ++ text_of table ball))

-- the script of a directive from this state of its run on
abbrev pub from_here : ℕ → State → (World → Script) → Script
from_here k s next = directive_script k (run_of s) next

-- How far the run of this directive over this world has come, and where its script is.
pub record DirectivePlace (Stands : State → Type 0) (k : ℕ) (goal : Tree) (w : World) (budget : ℕ) (old new : Place) (next : World → Script) : Type 0 where
  pub at : State
  pub stands : Stands at
  pub gave : HasGiven (started goal budget w) 0 at
  pub advances : Advances old new (goal_script budget k goal w next) (from_here k at next)

pub directive_begins : (Stands : State → Type 0) (k : ℕ) (goal : Tree) (w : World) (budget : ℕ) (old : Place) (next : World → Script) → Stands (started goal budget w)
    → DirectivePlace Stands k goal w budget old old next
directive_begins Stands k goal w budget old next stands =
    record { at = started goal budget w; stands = stands; gave = begun; advances = advance_run old w.runs (from_here k (started goal budget w) next) }

-- the run gave an output, which is to be written
pub record DirectiveTurn (Later : State → Type 0) (k : ℕ) (bytes : List ℕ) (goal : Tree) (w : World) (budget : ℕ) (old mid : Place) (next : World → Script) : Type 0 where
  pub at : State
  pub stands : Later at
  pub gave : HasGiven (started goal budget w) 0 at
  pub advances : Advances old mid (goal_script budget k goal w next) (Shows (Output bytes) (from_here k at next))

module _ {k : ℕ} {goal : Tree} {w : World} {budget : ℕ} {old mid : Place} {next : World → Script} where
  pub shown_comes : {Stands Later : State → Type 0} {bytes : List ℕ} → (p : DirectivePlace Stands k goal w budget old mid next) → Comes p.at (Wrote bytes) Later
      → DirectiveTurn Later k bytes goal w budget old mid next
  shown_comes p c = record {
    at = c.new;
    stands = c.stands;
    gave = gave_output p.gave c.quiet c.last;
    advances = subst (λ z. Advances old mid (goal_script budget k goal w next) z) (ap (λ z. directive_script k z next) (comes_run c)) p.advances;
  }

  pub shown_breaks : {Later : State → Type 0} {bytes : List ℕ} → (Stands : State → Type 0) (May : Limit → State → Type 0) (now : Phase) (new : Place) (behind : World → Script) (r : Result Flow Fault)
      → DirectiveTurn Later k bytes goal w budget old mid next → IsErr r → Begins mid.0 new.0 bytes → Does budget Stands May now old new (goal_script budget k goal w next) behind r
  shown_breaks {bytes = bytes} Stands May now new behind r t failed b =
      let rest = from_here k t.at next in
      breaks_after budget Stands May now old mid new (goal_script budget k goal w next) (Shows (Output bytes) rest) behind r t.advances failed
      (begins_before mid.0 new.0 bytes (script_bytes (ends_within mid.1 bytes) rest) b)

  pub shown_goes : {Later : State → Type 0} {bytes : List ℕ} → (new : Place) → DirectiveTurn Later k bytes goal w budget old mid next → Appends mid.0 new.0 bytes → new.1 ≡ ends_within mid.1 bytes
      → DirectivePlace Later k goal w budget old new next
  shown_goes {bytes = bytes} new t written within = record {
    at = t.at;
    stands = t.stands;
    gave = t.gave;
    advances = advance_on t.advances (advance_segment mid new (Output bytes) (from_here k t.at next) written within);
  }

-- a limit stopped the engine within the run, and nothing was written since
within : (Stands : State → Type 0) (May : Limit → State → Type 0) (now : Phase) (l : Limit) (k : ℕ) (goal : Tree) (w : World) (budget : ℕ) (s : State) (next : World → Script)
    → HasGiven (started goal budget w) 0 s → Stands s × (now ≡ Spent l) → May l s → StopsIn budget Stands May now l (goal_script budget k goal w next) (from_here k s next)
within Stands May now l k goal w budget s next gave stands may = record { at = s; stands = stands.0; spent = stands.1; stops = within_directive k goal w next gave may }

-- the run ends with this line
line_ends : (budget : ℕ) (Stands : State → Type 0) (May : Limit → State → Type 0) (now : Phase) (old new : Place) (k : ℕ) (s : State) (ending : Ending) (text : List ℕ) (next : World → Script) (r : Result Flow Fault)
    → (f : Finishes s ending Stands) → now ≡ Ready → directive_script k (runs.Stops ending f.world) next ≡ Shows (Line text) (next f.world) → PutsLine text flow.On old new r
    → Does budget Stands May now old new (from_here k s next) next r
line_ends budget Stands May now old new k s ending text next r f ready line puts =
    let whole = ap (λ z. directive_script k z next) (finishes_run f) ∙ line in
    rw whole (puts_on budget Stands May now old new text (idle f.world) next r puts f.stands ready)

-- the run gave an answer, which ends it: what is left of it is dropped
answered : (budget : ℕ) (Stands : State → Type 0) (May : Limit → State → Type 0) (now : Phase) (old mid new : Place) (script : Script) (k : ℕ) (s : State) (values : List Tree) (next : World → Script) (r : Result Flow Fault)
    → Advances old mid script (from_here k s next) → Comes s (Answered values) Stands → now ≡ Ready → r ≡ Ok flow.On → new ≡ mid → Does budget Stands May now old new script next r
answered budget Stands May now old mid new script k s values next r h c ready is same =
    let there = subst (λ z. Advances old mid script z) (ap (λ z. directive_script k z next) (comes_run c)) h in
    rw (is, same) (record { at = c.new; stands = c.stands; ready = ready; advances = there })

-- a pause that is no output ends its directive, where these are the operators of what the engine stands for, or of where it stopped
pub directive_ends : (Stands : State → Type 0) (May : Limit → State → Type 0) (table : List Operator) (now : Phase) → ((t : State) → Stands t → HoldsWhereItIs now t (λ u. table ≡ u.world.operators)) → (old mid new : Place) (count k : ℕ) → IsCount count k → (goal : Tree) (w : World) (budget : ℕ) (s : State) (p : Pause) (next : World → Script) (r : Result Flow Fault)
    → HasGiven (started goal budget w) 0 s → Advances old mid (goal_script budget k goal w next) (from_here k s next) → Pauses s p Stands now → MeetsLimit May s p → EndsDirective count table p mid new r
    → ((bytes : Vec ℕ Global) → p ≡ pause.Output bytes → ⊥)
    → Does budget Stands May now old new (goal_script budget k goal w next) next r
directive_ends Stands May table now ops old mid new count k counts goal w budget s p next r gave h = ends p
  where
    script : Script
    script = goal_script budget k goal w next

    here : (text : List ℕ) (ending : Ending) → (f : Finishes s ending Stands) → now ≡ Ready → directive_script k (runs.Stops ending f.world) next ≡ Shows (Line text) (next f.world) → PutsLine text flow.On mid new r
        → Does budget Stands May now old new script next r
    here text ending f ready line puts = does_after budget Stands May now old mid new script (from_here k s next) next r h (line_ends budget Stands May now mid new k s ending text next r f ready line puts)

    same : counted count ≡ counted k
    same = counted_same count k counts

    ends : (p : Pause) → Pauses s p Stands now → MeetsLimit May s p → EndsDirective count table p mid new r → ((bytes : Vec ℕ Global) → p ≡ pause.Output bytes → ⊥)
        → Does budget Stands May now old new script next r
    ends (pause.Answer values) p m e output = answered budget Stands May now old mid new script k s (map term_of values.items) next r h p.0 p.1 e.0 e.1
    ends (pause.Output bytes) p m e output = absurd (output bytes refl)
    ends pause.NoMore p m e output = here (directive_failed_line k) NoMore p.0 p.1 refl (subst (λ z. PutsLine z flow.On mid new r) (ap failed_by same) e)
    ends pause.Budget p m e output = here (directive_stopped_line k) Budget p.0 p.1 refl (subst (λ z. PutsLine z flow.On mid new r) (ap stopped_by same) e)
    ends (pause.Uncaught ball) p m e output =
        let operators = where_ready now (idle p.0.world) (λ u. table ≡ u.world.operators) p.1 (ops (idle p.0.world) p.0.stands) in
        let line = subst (λ z. PutsLine z flow.On mid new r) (ap₂ (λ o z. refused_by o (term_of ball.term.value) z) operators same) e in
        here (directive_refused_line p.0.world.operators k (term_of ball.term.value)) (Uncaught (term_of ball.term.value)) p.0 p.1 refl line
    ends (pause.Halt n) p m e output =
        let whole = ap (λ z. directive_script k z next) (finishes_run p.0) in
        does_after budget Stands May now old mid new script (from_here k s next) next r h (rw whole (puts_halt budget Stands May now mid new (halt_line n) n next r e p.1))
    ends pause.HeapFull p m e output = limit_ends budget Stands May now limit.Heap old mid new script (from_here k s next) next r h e.0 e.1 (within Stands May now limit.Heap k goal w budget s next gave p m)
    ends pause.FramesFull p m e output = limit_ends budget Stands May now limit.Frames old mid new script (from_here k s next) next r h e.0 e.1 (within Stands May now limit.Frames k goal w budget s next gave p m)
    ends pause.NoMemory p m e output = limit_ends budget Stands May now limit.Memory old mid new script (from_here k s next) next r h e.0 e.1 (inl (within Stands May now limit.Memory k goal w budget s next gave p m))
    ends pause.Spent p m e output = absurd p

-- a directive was not started
pub directive_refused : (Stands : State → Type 0) (May : Limit → State → Type 0) (now : Phase) (l : Limit) (k : ℕ) (goal : Tree) (budget : ℕ) (s : State) (next : World → Script)
    → Stands s × (now ≡ Spent l) → MayRefuse l → May l (started goal budget s.world)
    → StopsIn budget Stands May now l (goal_script budget k goal s.world next) (goal_script budget k goal s.world next)
directive_refused Stands May now l k goal budget s next stands refuses may =
    record { at = s; stands = stands.0; spent = stands.1; stops = before_directive k goal s.world next refl refuses may }

-- How far the kept goals were run: those that are left, and where their script is.
pub record KeptPlace (Stands : State → Type 0) (budget : ℕ) (left : List RustKept) (old new : Place) (script : Script) (next : World → Script) : Type 0 where
  pub at : State
  pub stands : Stands at
  pub goals : List Kept
  pub are : AreKept left goals
  pub advances : Advances old new script (kept_script budget goals at.world next)

-- the next kept goal, and the script behind it
pub record KeptTurn (Stands : State → Type 0) (budget : ℕ) (x : RustKept) (left : List RustKept) (old mid : Place) (script : Script) (next : World → Script) : Type 0 where
  pub at : State
  pub stands : Stands at
  pub k : ℕ
  pub counts : IsCount x.number k
  pub goals : List Kept
  pub are : AreKept left goals
  pub advances : Advances old mid script (goal_script budget k (term_of x.goal) at.world (λ v. kept_script budget goals v next))

-- the goals that are left, where there are some
pub record FirstKept (x : RustKept) (left : List RustKept) (goals : List Kept) : Type 0 where
  pub first : Kept
  pub others : List Kept
  pub is : goals ≡ first ∷ others
  pub counts : IsCount x.number first.place
  pub goal : term_of x.goal ≡ first.goal
  pub are : AreKept left others

first_by : (x : RustKept) (left : List RustKept) (goals : List Kept) → AreKept (x ∷ left) goals → FirstKept x left goals
first_by x left [] are = absurd are
first_by x left (g ∷ gs) are = record { first = g; others = gs; is = refl; counts = are.0; goal = are.1; are = are.4 }

drop_item : {X : Type 0} (xs : List X) (i : ℕ) (x : X) → i < length xs → x ≡ get_or xs i x → drop i xs ≡ x ∷ drop (i + 1) xs
drop_item xs i x low e = rw add-one (drop-cons xs i x low ∙ ap (λ y. y ∷ drop (suc i) xs) (sym e))

-- a kept goal that is left is well formed, and its variables are numbered in the order of their first occurrence
fits_by : (x : RustKept) (left : List RustKept) (goals : List Kept) → AreKept (x ∷ left) goals → (arities_fit (term_of x.goal) ≡ true) × IsNumbered (term_of x.goal)
fits_by x left [] are = absurd are
fits_by x left (g ∷ gs) are = (are.2, are.3)

pub kept_fits : (kept : List RustKept) (i : ℕ) (x : RustKept) (goals : List Kept) → i < length kept → x ≡ get_or kept i x → AreKept (drop i kept) goals
    → (arities_fit (term_of x.goal) ≡ true) × IsNumbered (term_of x.goal)
kept_fits kept i x goals low is are = fits_by x (drop (i + 1) kept) goals (rw (drop_item kept i x low is) at are)

pub kept_turn : (Stands : State → Type 0) (budget : ℕ) (kept : List RustKept) (i : ℕ) (x : RustKept) (old mid : Place) (script : Script) (next : World → Script) → i < length kept → x ≡ get_or kept i x
    → KeptPlace Stands budget (drop i kept) old mid script next → KeptTurn Stands budget x (drop (i + 1) kept) old mid script next
kept_turn Stands budget kept i x old mid script next low is p =
    let f = first_by x (drop (i + 1) kept) p.goals (rw (drop_item kept i x low is) at p.are) in
    let there = subst (λ z. Advances old mid script (kept_script budget z p.at.world next)) f.is p.advances in
    record {
      at = p.at;
      stands = p.stands;
      k = f.first.place;
      counts = f.counts;
      goals = f.others;
      are = f.are;
      advances = rw f.goal there;
    }

pub kept_goes : (Stands Later : State → Type 0) (now : Phase) (budget : ℕ) (x : RustKept) (left : List RustKept) (old mid new : Place) (script : Script) (next : World → Script)
    → (t : KeptTurn Stands budget x left old mid script next)
    → GoesOn Later now mid new (goal_script budget t.k (term_of x.goal) t.at.world (λ v. kept_script budget t.goals v next)) (λ v. kept_script budget t.goals v next)
    → (now ≡ Ready) × KeptPlace Later budget left old new script next
kept_goes Stands Later now budget x left old mid new script next t g =
    (g.ready, record { at = g.at; stands = g.stands; goals = t.goals; are = t.are; advances = advance_on t.advances g.advances })

none_left : (goals : List Kept) → AreKept [] goals → goals ≡ []
none_left [] are = refl
none_left (g ∷ gs) are = absurd are

-- no kept goal is left
pub kept_end : (Stands : State → Type 0) (now : Phase) (budget : ℕ) (kept : List RustKept) (i : ℕ) (old new : Place) (script : Script) (next : World → Script) → length kept ≤ i
    → KeptPlace Stands budget (drop i kept) old new script next → now ≡ Ready → GoesOn Stands now old new script next
kept_end Stands now budget kept i old new script next low p ready =
    let none = none_left p.goals (rw (drop_all i kept low) at p.are) in
    record { at = p.at; stands = p.stands; ready = ready; advances = subst (λ z. Advances old new script (kept_script budget z p.at.world next)) none p.advances }

-- one more kept goal
pub kept_more : (kept : List RustKept) (goals : List Kept) (x : RustKept) (k : ℕ) (goal : Tree) → AreKept kept goals → IsCount x.number k → term_of x.goal ≡ goal → arities_fit goal ≡ true → IsNumbered goal
    → AreKept (kept ++ x ∷ []) (goals ++ record { place = k; goal = goal } ∷ [])
kept_more [] [] x k goal are counts same fits numbered = (counts, same, rw same fits, rw same numbered, tt)
kept_more [] (g ∷ gs) x k goal are counts same fits numbered = absurd are
kept_more (y ∷ ys) [] x k goal are counts same fits numbered = absurd are
kept_more (y ∷ ys) (g ∷ gs) x k goal are counts same fits numbered = (are.0, are.1, are.2, are.3, kept_more ys gs x k goal are.4 counts same fits numbered)

pub kept_begins : (Stands : State → Type 0) (budget : ℕ) (kept : List RustKept) (s : State) (goals : List Kept) (old : Place) (next : World → Script) → Stands s → AreKept kept goals
    → KeptPlace Stands budget kept old old (kept_script budget goals s.world next) next
kept_begins Stands budget kept s goals old next stands are =
    record { at = s; stands = stands; goals = goals; are = are; advances = advance_none old (kept_script budget goals s.world next) }
