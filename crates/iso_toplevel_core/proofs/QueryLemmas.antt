-- What runs of queries come to.
use Rattle.std.proofs.Common.{◌≡◌, ◌≤◌, ◌<◌, ◌+◌, ◌-◌, ℕ, zero, suc, Bool, false, true, List, [], ◌++◌, length, codes, Option, Some, None, IfSome, Result, Ok, Err, Vec, Global, inl, refl, ap, subst, ◌∙◌, arith}
use Rattle.std.specs.Fmt.{decimal}
use Rattle.std.specs.Io.KnownBytes.{Appends}
use Rattle.std.specs.Result.{IsErrAnd}
use Rattle.iso_ops.specs.Operators.{Operator}
use Rattle.iso_model.specs.Terms.Trees.{Tree}
use Rattle.iso_model.specs.Terms.TermOf.{term_of}
use Rattle.iso_model.specs.Search.Engines.{Phase, Ready, Spent, HoldsWhereItIs, Pauses, MeetsLimit}
use Rattle.iso_model.specs.Syntax.Grammar.{ReadTerm}
use Rattle.iso_model.specs.Syntax.Token.{Shown}
use Rattle.iso_model.specs.Syntax.Items.{Item, Readable, Taken, next_item}
use Rattle.iso_model.specs.Session.Lines.{text_of}
use Rattle.iso_model.specs.Search.Walker.{World, State, Ending, Answered, Wrote, NoMore, Budget, Uncaught, idle, started}
use Rattle.iso_model.specs.Search.Runs as runs
use Rattle.iso_model.specs.Search.Runs.{Then, HasGiven, begun, gave_answer, gave_output, Comes, Finishes}
use Rattle.iso_model.specs.Search.RunLaws.{run_of}
use Rattle.iso_model.proofs.Search.RunLaws.Quiets.{comes_run, finishes_run}
use Rattle.iso_model.specs.Session.Sessions.{Segment, Script, Shows, Output, ends_within, query_goal}
use Rattle.iso_model.specs.Session.Beginnings.{Begins, MayRefuse}
use Rattle.iso_model.specs.declared.terms.Term.{Term}
use Rattle.iso_model.specs.declared.limit.Limit.{Limit}
use Rattle.iso_model.specs.declared.limit.Limit.TheVariants as limit
use Rattle.iso_model.specs.declared.pauses.Pause.{Pause}
use Rattle.iso_model.specs.declared.pauses.Pause.TheVariants as pause
use Rattle.iso_session_core.specs.declared.items.Item.{Item as RustItem}
use Rattle.iso_session_core.specs.declared.flows.Flow.{Flow}
use Rattle.iso_session_core.specs.declared.flows.Flow.TheVariants as flow
use Rattle.iso_session_core.specs.Progress.{Place, Advances}
use Rattle.iso_session_core.specs.Read.{item_read, found}
use Rattle.iso_session_core.proofs.ConsultLemmas.{empty_by}
use Rattle.iso_session_core.proofs.ProgressLemmas.{advance_none, advance_run, advance_on, advance_segment, where_ready}
use Rattle.iso_toplevel_core.specs.declared.faults.Fault.{Fault}
use Rattle.iso_toplevel_core.specs.declared.faults.Fault.TheVariants as fault
use Rattle.iso_toplevel_core.specs.Dialogues.{Behind, answer_shown, end_shown, no_more, decided, run_shown, query_shown, queries_by, queries_shown}
use Rattle.iso_toplevel_core.specs.Ends.{EndsShown}
use Rattle.iso_toplevel_core.specs.Progress.{GoesOn, Stops, StopsIn, before_query, within_query, ToplevelStops, Unheard, Fails, Does, StillWhereOn}
use Rattle.iso_toplevel_core.specs.Screens.{PutsPiece, Leaves}
use Rattle.iso_toplevel_core.proofs.PartLemmas.{does_after, fails_after, piece_breaks, puts_on, puts_halt, puts_piece, puts_stopped, puts_broken, memory_stops}

-- How far the run of this query over this world has come: behind so many answers it stands at this state.
abbrev pub Runs : ReadTerm → World → ℕ → ℕ → State → Type 0
Runs query w budget k s = HasGiven (started (query_goal query.term) budget w) k s

-- its script from there on
abbrev pub script_from : Bool → Bool → Bool → ReadTerm → State → List ℕ → Behind → Script
script_from waits within answered query s left next = run_shown waits query.names within answered (run_of s) left next

-- How far a run has come: the state, what is left of the input, and where its script is.
pub record RunPlace (Stands : State → Type 0) (waits within answered : Bool) (query : ReadTerm) (w : World) (budget : ℕ) (xs : List ℕ) (known : Option (List ℕ)) (old new : Place) (next : Behind) : Type 0 where
  pub at : State
  pub stands : Stands at
  pub done : ℕ
  pub gave : Runs query w budget done at
  pub left : List ℕ
  pub known_left : known ≡ Some left
  pub no_more : length left ≤ length xs
  pub advances : Advances old new (query_shown waits budget (Readable query) w xs next) (script_from waits within answered query at left next)

pub run_begins : (Stands : State → Type 0) (waits : Bool) (query : ReadTerm) (w : World) (budget : ℕ) (xs : List ℕ) (known : Option (List ℕ)) (old : Place) (next : Behind) → Stands (started (query_goal query.term) budget w) → known ≡ Some xs
    → RunPlace Stands waits false false query w budget xs known old old next
run_begins Stands waits query w budget xs known old next stands is = record {
  at = started (query_goal query.term) budget w;
  stands = stands;
  done = 0;
  gave = begun;
  left = xs;
  known_left = is;
  no_more = omega arith;
  advances = advance_run old w.runs (script_from waits false false query (started (query_goal query.term) budget w) xs next);
}

module _ (waits within answered : Bool) (query : ReadTerm) (w : World) (budget : ℕ) (xs : List ℕ) (known : Option (List ℕ)) (old mid : Place) (next : Behind) (Stands Later : State → Type 0) (p : RunPlace Stands waits within answered query w budget xs known old mid next) where
  abbrev script : Script
  script = query_shown waits budget (Readable query) w xs next

  -- ---- outputs

  shows_output : (bytes : List ℕ) → (c : Comes p.at (Wrote bytes) Later) → Advances old mid script (Shows (Output bytes) (script_from waits (ends_within within bytes) answered query c.new p.left next))
  shows_output bytes c = subst (λ z. Advances old mid script z) (ap (λ z. run_shown waits query.names within answered z p.left next) (comes_run c)) p.advances

  pub output_goes : (bytes : List ℕ) (later : Bool) (new : Place) → Comes p.at (Wrote bytes) Later → Appends mid.0 new.0 bytes → new.1 ≡ ends_within mid.1 bytes → later ≡ ends_within within bytes
      → RunPlace Later waits later answered query w budget xs known old new next
  output_goes bytes later new c written ends is = rw is (record {
    at = c.new;
    stands = c.stands;
    done = p.done;
    gave = gave_output p.gave c.quiet c.last;
    left = p.left;
    known_left = p.known_left;
    no_more = p.no_more;
    advances = advance_on (shows_output bytes c) (advance_segment mid new (Output bytes) (script_from waits (ends_within within bytes) answered query c.new p.left next) written ends);
  })

  pub output_breaks : (bytes : List ℕ) (May : Limit → State → Type 0) (now : Phase) (new : Place) (later : Option (List ℕ)) (r : Result Flow Fault) → Comes p.at (Wrote bytes) Later → IsErrAnd r (λ f. f ≡ fault.Output) → Begins mid.0 new.0 bytes
      → Does waits budget Later May now old new xs later script next r
  output_breaks bytes May now new later (Ok f) c failed b = absurd failed
  output_breaks bytes May now new later (Err fault.Output) c failed b = piece_breaks old mid new script (Output bytes) (script_from waits (ends_within within bytes) answered query c.new p.left next) (shows_output bytes c) b
  output_breaks bytes May now new later (Err (fault.Input obstacle)) c failed b = cc

  -- ---- answers

  -- what follows an answer, by the person's decision
  abbrev pub goes_on : {values : List Tree} → Comes p.at (Answered values) Later → List ℕ → Script
  goes_on c = λ left. script_from waits false true query c.new left next

  abbrev pub is_dropped : {values : List Tree} → Comes p.at (Answered values) Later → List ℕ → Script
  is_dropped c = next c.new.world

  abbrev pub is_decided : {values : List Tree} → Comes p.at (Answered values) Later → Script
  is_decided c = decided waits p.left (goes_on c) (is_dropped c)

  shows_answer : {values : List Tree} (table : List Operator) → (c : Comes p.at (Answered values) Later) → table ≡ c.new.world.operators → Advances old mid script (Shows (answer_shown waits within table query.names values) (is_decided c))
  shows_answer {values} table c same = rw same (subst (λ z. Advances old mid script z) (ap (λ z. run_shown waits query.names within answered z p.left next) (comes_run c)) p.advances)

  module _ {values : List Tree} (table : List Operator) (c : Comes p.at (Answered values) Later) (same : table ≡ c.new.world.operators) (new : Place) where
    abbrev piece : Segment
    piece = answer_shown waits within table query.names values

    pub answer_breaks : (May : Limit → State → Type 0) (now : Phase) (later : Option (List ℕ)) (e : Fault) (r : Result Flow Fault) → IsErrAnd r (λ f. f ≡ e) → PutsPiece piece flow.On mid new (Err e) → Does waits budget Later May now old new xs later script next r
    answer_breaks May now later e (Ok f) failed puts = absurd failed
    answer_breaks May now later e (Err f) failed puts = rw failed (puts_broken old mid new script piece (is_decided c) e (shows_answer table c same) puts)

    pub answer_stops : (May : Limit → State → Type 0) (now : Phase) (later : Option (List ℕ)) (f : Flow) → PutsPiece piece flow.On mid new (Ok f) → (f ≡ flow.On → ⊥) → now ≡ Ready → Does waits budget Later May now old new xs later script next (Ok f)
    answer_stops May now later f puts ends ready = puts_stopped waits budget Later May now old mid new xs later script piece (is_decided c) next f (shows_answer table c same) puts ends ready

    pub answer_put : PutsPiece piece flow.On mid new (Ok flow.On) → Advances old new script (is_decided c)
    answer_put puts = puts_piece old mid new script piece (is_decided c) (shows_answer table c same) puts

  -- ---- decisions

  module _ {values : List Tree} (c : Comes p.at (Answered values) Later) (new last : Place) (later : Option (List ℕ)) (h : Advances old new script (is_decided c)) where
    pub decision_breaks : (May : Limit → State → Type 0) (now : Phase) (e : Fault) (r : Result Flow Fault) → IsErrAnd r (λ f. f ≡ e) → Fails new last (is_decided c) e → Does waits budget Later May now old last xs later script next r
    decision_breaks May now e (Ok f) failed fails = absurd failed
    decision_breaks May now e (Err f) failed fails = rw failed (fails_after old new last script (is_decided c) e h fails)

    pub decision_memory : (May : Limit → State → Type 0) (now : Phase) → Unheard new last (is_decided c) → now ≡ Ready → Does waits budget Later May now old last xs later script next (Ok (flow.Stops limit.Memory))
    decision_memory May now u ready = memory_stops waits budget Later May now old last script u.rest (advance_on h u.advances) ready

    pub decision_stops : (now : Phase) → Leaves new last p.left later (is_decided c) (is_dropped c) → now ≡ Ready → GoesOn Later now old last xs later script next
    decision_stops now l ready =
        record { at = c.new; stands = c.stands; ready = ready; left = l.left; known_left = l.known_left; no_more = omega (arith, l.no_more, p.no_more); advances = advance_on h l.advances }

    pub decision_goes : Leaves new last p.left later (is_decided c) (goes_on c) → RunPlace Later waits false true query w budget xs later old last next
    decision_goes l = record {
      at = c.new;
      stands = c.stands;
      done = p.done + 1;
      gave = gave_answer p.gave c.quiet c.last;
      left = l.left;
      known_left = l.known_left;
      no_more = omega (arith, l.no_more, p.no_more);
      advances = advance_on h l.advances;
    }

  -- ---- ends

  module _ (May : Limit → State → Type 0) (now : Phase) (new : Place) (r : Result Flow Fault) where
    -- a limit stopped the engine within the run, and nothing was written since
    limited : (l : Limit) → (StopsIn waits budget Later May now l script (script_from waits within answered query p.at p.left next) → ToplevelStops waits budget Later May now script l (script_from waits within answered query p.at p.left next))
        → Later p.at × (now ≡ Spent l) → May l p.at → r ≡ Ok (flow.Stops l) → new ≡ mid → Does waits budget Later May now old new xs known script next r
    limited l in_all stands may is unmoved = rw (is, unmoved) (record {
      rest = script_from waits within answered query p.at p.left next;
      advances = p.advances;
      stops = in_all (record { at = p.at; stands = stands.0; spent = stands.1; stops = within_query query w xs p.left within answered next p.done p.gave may });
    })

    -- the run ends with this text, and what follows the query goes on
    text_ends : (ending : Ending) (piece : Segment) → (f : Finishes p.at ending Later) → now ≡ Ready → run_shown waits query.names within answered (runs.Stops ending f.world) p.left next ≡ Shows piece (next f.world p.left) → PutsPiece piece flow.On mid new r
        → Does waits budget Later May now old new xs known script next r
    text_ends ending piece f ready text puts =
        let whole = ap (λ z. run_shown waits query.names within answered z p.left next) (finishes_run f) ∙ text in
        does_after waits budget Later May now old mid new xs p.left known script (script_from waits within answered query p.at p.left next) next r p.no_more p.advances
        (rw whole (puts_on waits budget Later May now mid new p.left known piece (idle f.world) next r puts f.stands ready p.known_left))

    -- a pause that is no answer and no output ends its query, where these are the operators of what the engine stands
    -- for, or of where it stopped
    pub query_ends : (table : List Operator) → ((t : State) → Later t → HoldsWhereItIs now t (λ u. table ≡ u.world.operators)) → (e : Pause) → Pauses p.at e Later now → MeetsLimit May p.at e → EndsShown waits within answered table e mid new r
        → ((values : Vec Term Global) → e ≡ pause.Answer values → ⊥) → ((bytes : Vec ℕ Global) → e ≡ pause.Output bytes → ⊥)
        → Does waits budget Later May now old new xs known script next r
    query_ends table ops (pause.Answer values) pauses m e answer output = absurd (answer values refl)
    query_ends table ops (pause.Output bytes) pauses m e answer output = absurd (output bytes refl)
    query_ends table ops pause.NoMore pauses m e answer output = text_ends NoMore (end_shown waits within (no_more answered)) pauses.0 pauses.1 refl e
    query_ends table ops pause.Budget pauses m e answer output = text_ends Budget (end_shown waits within (codes "budget")) pauses.0 pauses.1 refl e
    query_ends table ops (pause.Uncaught ball) pauses m e answer output =
        let t = term_of ball.term.value in
        let said = subst (λ o. PutsPiece (end_shown waits within (codes "error " ++ text_of o t)) flow.On mid new r) (where_ready now (idle pauses.0.world) (λ u. table ≡ u.world.operators) pauses.1 (ops (idle pauses.0.world) pauses.0.stands)) e in
        text_ends (Uncaught t) (end_shown waits within (codes "error " ++ text_of pauses.0.world.operators t)) pauses.0 pauses.1 refl said
    query_ends table ops (pause.Halt n) pauses m e answer output =
        let whole = ap (λ z. run_shown waits query.names within answered z p.left next) (finishes_run pauses.0) in
        does_after waits budget Later May now old mid new xs p.left known script (script_from waits within answered query p.at p.left next) next r p.no_more p.advances
        (rw whole (puts_halt waits budget Later May now mid new p.left known (end_shown waits within (codes "halt " ++ decimal n)) n next r e pauses.1))
    query_ends table ops pause.HeapFull pauses m e answer output = limited limit.Heap (λ s. s) pauses m e.0 e.1
    query_ends table ops pause.FramesFull pauses m e answer output = limited limit.Frames (λ s. s) pauses m e.0 e.1
    query_ends table ops pause.NoMemory pauses m e answer output = limited limit.Memory (λ s. inl s) pauses m e.0 e.1
    query_ends table ops pause.Spent pauses m e answer output = absurd pauses

-- ---- where the search stands still

pub still_off : (Stands : State → Type 0) (now : Phase) (f : Flow) → (f ≡ flow.On → ⊥) → StillWhereOn Stands now (Ok f)
still_off Stands now flow.On off = absurd (off refl)
still_off Stands now (flow.Halts n) off = tt
still_off Stands now (flow.Stops l) off = tt

pub still_failed : (Stands : State → Type 0) (now : Phase) (P : Fault → Type 0) (r : Result Flow Fault) → IsErrAnd r P → StillWhereOn Stands now r
still_failed Stands now P (Ok f) failed = absurd failed
still_failed Stands now P (Err e) failed = tt

pub still_at : (Stands : State → Type 0) (now : Phase) (s : State) (r : Result Flow Fault) → Stands s → now ≡ Ready → StillWhereOn Stands now r
still_at Stands now s (Ok flow.On) stands ready = record { at = s; stands = stands; ready = ready }
still_at Stands now s (Ok (flow.Halts n)) stands ready = tt
still_at Stands now s (Ok (flow.Stops l)) stands ready = tt
still_at Stands now s (Err e) stands ready = tt

still_stopped : (Stands : State → Type 0) (now : Phase) (l : Limit) (r : Result Flow Fault) → r ≡ Ok (flow.Stops l) → StillWhereOn Stands now r
still_stopped Stands now l r is = rw is tt

-- the search stands still behind the end of a query
pub still_ends : (Stands : State → Type 0) (waits within answered : Bool) (table : List Operator) (now : Phase) (s : State) (e : Pause) (mid new : Place) (r : Result Flow Fault) → Pauses s e Stands now → EndsShown waits within answered table e mid new r
    → ((values : Vec Term Global) → e ≡ pause.Answer values → ⊥) → ((bytes : Vec ℕ Global) → e ≡ pause.Output bytes → ⊥) → StillWhereOn Stands now r
still_ends Stands waits within answered table now s (pause.Answer values) mid new r pauses e answer output = absurd (answer values refl)
still_ends Stands waits within answered table now s (pause.Output bytes) mid new r pauses e answer output = absurd (output bytes refl)
still_ends Stands waits within answered table now s pause.NoMore mid new r pauses e answer output = still_at Stands now (idle pauses.0.world) r pauses.0.stands pauses.1
still_ends Stands waits within answered table now s pause.Budget mid new r pauses e answer output = still_at Stands now (idle pauses.0.world) r pauses.0.stands pauses.1
still_ends Stands waits within answered table now s (pause.Uncaught ball) mid new r pauses e answer output = still_at Stands now (idle pauses.0.world) r pauses.0.stands pauses.1
still_ends Stands waits within answered table now s (pause.Halt n) mid new r pauses e answer output = still_at Stands now (idle pauses.0.world) r pauses.0.stands pauses.1
still_ends Stands waits within answered table now s pause.HeapFull mid new r pauses e answer output = still_stopped Stands now limit.Heap r e.0
still_ends Stands waits within answered table now s pause.FramesFull mid new r pauses e answer output = still_stopped Stands now limit.Frames r e.0
still_ends Stands waits within answered table now s pause.NoMemory mid new r pauses e answer output = still_stopped Stands now limit.Memory r e.0
still_ends Stands waits within answered table now s pause.Spent mid new r pauses e answer output = absurd pauses

-- ---- the queries of a text

-- a query was not started
pub not_started : (waits : Bool) (Stands : State → Type 0) (May : Limit → State → Type 0) (now : Phase) (l : Limit) (query : ReadTerm) (budget : ℕ) (s : State) (xs : List ℕ) (next : Behind)
    → Stands s × (now ≡ Spent l) → MayRefuse l → May l (started (query_goal query.term) budget s.world)
    → StopsIn waits budget Stands May now l (query_shown waits budget (Readable query) s.world xs next) (query_shown waits budget (Readable query) s.world xs next)
not_started waits Stands May now l query budget s xs next stands refuses may = record { at = s; stands = stands.0; spent = stands.1; stops = before_query query s.world xs next refl refuses may }

pub stops_before : (waits : Bool) (budget : ℕ) (Stands : State → Type 0) (May : Limit → State → Type 0) (now : Phase) (l : Limit) (old : Place) (script : Script) → ToplevelStops waits budget Stands May now script l script
    → Stops waits budget Stands May now l old old script
stops_before waits budget Stands May now l old script stops = record { rest = script; advances = advance_none old script; stops = stops }

-- How far the queries of a text were run: what is left of them and of the input, and where their script is.
pub record QueriesPlace (Stands : State → Type 0) (waits : Bool) (budget : ℕ) (ts : List Shown) (xs : List ℕ) (known : Option (List ℕ)) (old new : Place) (script : Script) (next : Behind) : Type 0 where
  pub at : State
  pub stands : Stands at
  pub turns : ℕ
  pub enough : length ts ≤ turns
  pub left : List ℕ
  pub known_left : known ≡ Some left
  pub no_more : length left ≤ length xs
  pub advances : Advances old new script (queries_shown waits budget turns ts at.world left next)

pub queries_begin : (Stands : State → Type 0) (waits : Bool) (budget : ℕ) (s : State) (ts : List Shown) (xs : List ℕ) (known : Option (List ℕ)) (old : Place) (next : Behind) → Stands s → known ≡ Some xs
    → QueriesPlace Stands waits budget ts xs known old old (queries_shown waits budget (length ts) ts s.world xs next) next
queries_begin Stands waits budget s ts xs known old next stands is = record {
  at = s;
  stands = stands;
  turns = length ts;
  enough = omega arith;
  left = xs;
  known_left = is;
  no_more = omega arith;
  advances = advance_none old (queries_shown waits budget (length ts) ts s.world xs next);
}

queries_over : (waits : Bool) (budget turns : ℕ) (w : World) (xs : List ℕ) (next : Behind) → queries_shown waits budget turns [] w xs next ≡ next w xs
unfolding queries_shown
queries_over waits budget zero w xs next = refl
queries_over waits budget (suc turns) w xs next = refl

-- no query is left
pub queries_end : (Stands : State → Type 0) (waits : Bool) (now : Phase) (budget : ℕ) (ts : List Shown) (xs : List ℕ) (known : Option (List ℕ)) (old new : Place) (script : Script) (next : Behind)
    → (p : QueriesPlace Stands waits budget ts xs known old new script next) → now ≡ Ready → next_item p.at.world.operators p.at.world.flags ts ≡ None → GoesOn Stands now old new xs known script next
queries_end Stands waits now budget ts xs known old new script next p ready none =
    let over = ap (λ z. queries_shown waits budget p.turns z p.at.world p.left next) (empty_by p.at.world.operators p.at.world.flags ts none) ∙ queries_over waits budget p.turns p.at.world p.left next in
    record { at = p.at; stands = p.stands; ready = ready; left = p.left; known_left = p.known_left; no_more = p.no_more; advances = subst (λ z. Advances old new script z) over p.advances }

-- memory for the next query was refused
pub queries_stop : (Stands : State → Type 0) (waits : Bool) (May : Limit → State → Type 0) (now : Phase) (budget : ℕ) (ts : List Shown) (xs : List ℕ) (known : Option (List ℕ)) (old new : Place) (script : Script) (next : Behind)
    → (p : QueriesPlace Stands waits budget ts xs known old new script next) → now ≡ Ready → Stops waits budget Stands May now limit.Memory old new script
queries_stop Stands waits May now budget ts xs known old new script next p ready = memory_stops waits budget Stands May now old new script (queries_shown waits budget p.turns ts p.at.world p.left next) p.advances ready

query_turn : (waits : Bool) (budget turns : ℕ) (ts : List Shown) (x : Taken) (w : World) (xs : List ℕ) (next : Behind) → next_item w.operators w.flags ts ≡ Some x
    → queries_shown waits budget (suc turns) ts w xs next ≡ query_shown waits budget x.item w xs (λ v left. queries_shown waits budget turns x.behind v left next)
unfolding queries_shown
query_turn waits budget turns ts x w xs next h = ap (λ o. queries_by waits budget o w xs next (λ behind v left. queries_shown waits budget turns behind v left next)) h

-- the next query, and the script behind it
pub record QueryTurn (Stands : State → Type 0) (waits : Bool) (budget : ℕ) (i : Item) (behind : List Shown) (xs : List ℕ) (known : Option (List ℕ)) (old mid : Place) (script : Script) (next : Behind) : Type 0 where
  pub at : State
  pub stands : Stands at
  pub turns : ℕ
  pub enough : length behind ≤ turns
  pub left : List ℕ
  pub known_left : known ≡ Some left
  pub no_more : length left ≤ length xs
  pub advances : Advances old mid script (query_shown waits budget i at.world left (λ v later. queries_shown waits budget turns behind v later next))

queries_turn : (Stands : State → Type 0) (waits : Bool) (budget : ℕ) (ts : List Shown) (x : Taken) (xs : List ℕ) (known : Option (List ℕ)) (old mid : Place) (script : Script) (next : Behind)
    → (p : QueriesPlace Stands waits budget ts xs known old mid script next) → next_item p.at.world.operators p.at.world.flags ts ≡ Some x → length x.behind < length ts → QueryTurn Stands waits budget x.item x.behind xs known old mid script next
queries_turn Stands waits budget ts x xs known old mid script next p item shorter =
    let some = p.turns - 1 in
    let turn : p.turns ≡ suc some = omega (arith, p.enough, shorter) in
    let whole = ap (λ n. queries_shown waits budget n ts p.at.world p.left next) turn ∙ query_turn waits budget some ts x p.at.world p.left next item in
    record {
      at = p.at;
      stands = p.stands;
      turns = some;
      enough = omega (arith, p.enough, shorter);
      left = p.left;
      known_left = p.known_left;
      no_more = p.no_more;
      advances = subst (λ z. Advances old mid script z) whole p.advances;
    }

-- the turn of the query that was found
pub query_found : (Stands : State → Type 0) (waits : Bool) (budget : ℕ) (ts behind : List Shown) (o : Option RustItem) (i : RustItem) (xs : List ℕ) (known : Option (List ℕ)) (old mid : Place) (script : Script) (next : Behind)
    → (p : QueriesPlace Stands waits budget ts xs known old mid script next) → next_item p.at.world.operators p.at.world.flags ts ≡ found o behind → o ≡ Some i → IfSome o (λ _. length behind < length ts)
    → QueryTurn Stands waits budget (item_read i) behind xs known old mid script next
query_found Stands waits budget ts behind o i xs known old mid script next p item some shorter =
    let here = rw some at item in
    let less = rw some at shorter in
    queries_turn Stands waits budget ts (record { item = item_read i; behind = behind }) xs known old mid script next p here less

-- the query was run, and the dialogue goes on
pub query_goes : (Stands Later : State → Type 0) (waits : Bool) (now : Phase) (budget : ℕ) (i : Item) (behind : List Shown) (xs : List ℕ) (known later : Option (List ℕ)) (old mid new : Place) (script : Script) (next : Behind)
    → (t : QueryTurn Stands waits budget i behind xs known old mid script next)
    → GoesOn Later now mid new t.left later (query_shown waits budget i t.at.world t.left (λ v l. queries_shown waits budget t.turns behind v l next)) (λ v l. queries_shown waits budget t.turns behind v l next)
    → QueriesPlace Later waits budget behind xs later old new script next
query_goes Stands Later waits now budget i behind xs known later old mid new script next t g = record {
  at = g.at;
  stands = g.stands;
  turns = t.turns;
  enough = t.enough;
  left = g.left;
  known_left = g.known_left;
  no_more = omega (arith, g.no_more, t.no_more);
  advances = advance_on t.advances g.advances;
}
