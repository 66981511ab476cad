-- What runs of queries come to.
use Rattle.std.proofs.Common.{◌≡◌, ℕ, zero, suc, ◌+◌, ◌-◌, ◌≤◌, ◌<◌, min, false, List, [], ◌++◌, length, codes, Option, Some, None, Result, Ok, IfSome, Vec, Global, inl, inr, refl, ap, ap₂, subst, ◌∙◌, arith}
use Rattle.std.specs.Result.{IsErr}
use Rattle.std.specs.Io.KnownBytes.{Appends}
use Rattle.iso_ops.specs.Operators.{Operator}
use Rattle.iso_model.specs.Terms.Trees.{Tree}
use Rattle.iso_model.specs.Terms.TermOf.{term_of}
use Rattle.iso_model.specs.Search.Engines.{Phase, Ready, Spent, HoldsWhereItIs, Pauses, MeetsLimit}
use Rattle.iso_model.specs.Syntax.Grammar.{ReadTerm}
use Rattle.iso_model.specs.Syntax.Token.{Shown}
use Rattle.iso_model.specs.Syntax.Items.{Item, Readable, Taken, next_item}
use Rattle.iso_model.specs.Session.Lines.{answer_line, solution_text, error_line, halt_line}
use Rattle.iso_model.specs.Search.Walker.{World, State, Ending, Answered, Wrote, NoMore, Budget, Uncaught, idle, started}
use Rattle.iso_model.specs.Search.Runs as runs
use Rattle.iso_model.specs.Search.Runs.{Trace, Then, HasGiven, begun, gave_answer, gave_output, Comes, Finishes}
use Rattle.iso_model.specs.Search.RunLaws.{run_of}
use Rattle.iso_model.proofs.Search.RunLaws.Quiets.{comes_run, finishes_run}
use Rattle.iso_model.specs.Session.Sessions.{ends_within, segment_bytes, script_bytes, Script, Shows, Closes, Line, Output, Done, run_script, query_goal, query_script, queries_by, queries_script}
use Rattle.iso_model.specs.Session.Beginnings.{Begins, MayRefuse, EngineStops, StopsIn, within_run, before_run}
use Rattle.iso_model.specs.declared.terms.Term.{Term}
use Rattle.iso_model.specs.declared.limit.Limit.{Limit}
use Rattle.iso_model.specs.declared.limit.Limit.TheVariants as limit
use Rattle.iso_model.specs.declared.pauses.Pause.{Pause}
use Rattle.iso_model.specs.declared.pauses.Pause.TheVariants as pause
use Rattle.iso_session_core.specs.declared.items.Item.{Item as RustItem}
use Rattle.iso_session_core.specs.declared.flows.Flow.{Flow}
use Rattle.iso_session_core.specs.declared.flows.Flow.TheVariants as flow
use Rattle.iso_session_core.specs.declared.statuses.Fault.{Fault}
use Rattle.iso_session_core.specs.Progress.{Place, Advances, GoesOn, Stops, Does, PutsLine, EndsQuery, IsCount}
use Rattle.iso_session_core.specs.Read.{item_read, found}
use Rattle.iso_session_core.proofs.WrittenLemmas.{begins_before}
use Rattle.iso_session_core.proofs.ConsultLemmas.{counted_same, empty_by}
use Rattle.iso_session_core.proofs.ProgressLemmas.{advance_none, advance_run, advance_on, advance_segment, puts_on, puts_halt, does_after, breaks_after, ready_awake, where_ready}

-- How far the run of this query over this world has come: behind so many answers it stands at this state.
abbrev pub Runs : ReadTerm → World → ℕ → ℕ → State → Type 0
Runs query w budget k s = HasGiven (started (query_goal query.term) budget w) k s

-- its script from there on
abbrev pub script_from : ReadTerm → ℕ → State → (World → Script) → Script
script_from query k s next = run_script query.names (k + 1) (run_of s) next

-- a limit stopped the engine within the run, and nothing was written since
within : (Stands : State → Type 0) (May : Limit → State → Type 0) (now : Phase) (l : Limit) (query : ReadTerm) (w : World) (budget : ℕ) (k : ℕ) (s : State) (next : World → Script)
    → Runs query w budget k s → Stands s × (now ≡ Spent l) → May l s → StopsIn budget Stands May now l (query_script budget (Readable query) w next) (script_from query k s next)
within Stands May now l query w budget k s next gave stands may = record { at = s; stands = stands.0; spent = stands.1; stops = within_run query w next k gave may }

pub limit_ends : (budget : ℕ) (Stands : State → Type 0) (May : Limit → State → Type 0) (now : Phase) (l : Limit) (old mid new : Place) (script rest : Script) (behind : World → Script) (r : Result Flow Fault)
    → Advances old mid script rest → r ≡ Ok (flow.Stops l) → new ≡ mid → EngineStops budget Stands May now script l rest → Does budget Stands May now old new script behind r
limit_ends budget Stands May now l old mid new script rest behind r h is same stops = rw (is, same) (record { rest = rest; advances = h; stops = stops })

-- the run ends with this line, and the next query follows
line_ends : (budget : ℕ) (Stands : State → Type 0) (May : Limit → State → Type 0) (now : Phase) (old new : Place) (names : List (List ℕ × ℕ)) (k : ℕ) (s : State) (ending : Ending) (text : List ℕ) (next : World → Script) (r : Result Flow Fault)
    → (f : Finishes s ending Stands) → now ≡ Ready → run_script names k (runs.Stops ending f.world) next ≡ Shows (Line text) (next f.world) → PutsLine text flow.On old new r
    → Does budget Stands May now old new (run_script names k (run_of s) next) next r
line_ends budget Stands May now old new names k s ending text next r f ready line puts =
    let whole = ap (λ z. run_script names k z next) (finishes_run f) ∙ line in
    rw whole (puts_on budget Stands May now old new text (idle f.world) next r puts f.stands ready)

-- a pause that is no answer and no output ends its query, where these are the operators of what the engine stands for, or of where it stopped
pub query_ends : (Stands : State → Type 0) (May : Limit → State → Type 0) (table : List Operator) (now : Phase) → ((t : State) → Stands t → HoldsWhereItIs now t (λ u. table ≡ u.world.operators)) → (old mid new : Place) (query : ReadTerm) (w : World) (budget : ℕ) (k : ℕ) (s : State) (p : Pause) (next : World → Script) (r : Result Flow Fault)
    → Runs query w budget k s → Advances old mid (query_script budget (Readable query) w next) (script_from query k s next) → Pauses s p Stands now → MeetsLimit May s p → EndsQuery table p mid new r
    → ((values : Vec Term Global) → p ≡ pause.Answer values → ⊥) → ((bytes : Vec ℕ Global) → p ≡ pause.Output bytes → ⊥)
    → Does budget Stands May now old new (query_script budget (Readable query) w next) next r
query_ends Stands May table now ops old mid new query w budget k s p next r gave h = ends p
  where
    script : Script
    script = query_script budget (Readable query) w next

    here : (text : List ℕ) (ending : Ending) → (f : Finishes s ending Stands) → now ≡ Ready → run_script query.names (k + 1) (runs.Stops ending f.world) next ≡ Shows (Line text) (next f.world) → PutsLine text flow.On mid new r
        → Does budget Stands May now old new script next r
    here text ending f ready line puts = does_after budget Stands May now old mid new script (script_from query k s next) next r h (line_ends budget Stands May now mid new query.names (k + 1) s ending text next r f ready line puts)

    ends : (p : Pause) → Pauses s p Stands now → MeetsLimit May s p → EndsQuery table p mid new r → ((values : Vec Term Global) → p ≡ pause.Answer values → ⊥) → ((bytes : Vec ℕ Global) → p ≡ pause.Output bytes → ⊥)
        → Does budget Stands May now old new script next r
    ends (pause.Answer values) p m e answer output = absurd (answer values refl)
    ends (pause.Output bytes) p m e answer output = absurd (output bytes refl)
    ends pause.NoMore p m e answer output = here (codes "end: no more") NoMore p.0 p.1 refl e
    ends pause.Budget p m e answer output = here (codes "end: budget") Budget p.0 p.1 refl e
    ends (pause.Uncaught ball) p m e answer output =
        let line = subst (λ o. PutsLine (error_line o (term_of ball.term.value)) flow.On mid new r) (where_ready now (idle p.0.world) (λ u. table ≡ u.world.operators) p.1 (ops (idle p.0.world) p.0.stands)) e in
        here (error_line p.0.world.operators (term_of ball.term.value)) (Uncaught (term_of ball.term.value)) p.0 p.1 refl line
    ends (pause.Halt n) p m e answer output =
        let whole = ap (λ z. run_script query.names (k + 1) z next) (finishes_run p.0) in
        does_after budget Stands May now old mid new script (script_from query k s next) next r h (rw whole (puts_halt budget Stands May now mid new (halt_line n) n next r e p.1))
    ends pause.HeapFull p m e answer output = limit_ends budget Stands May now limit.Heap old mid new script (script_from query k s next) next r h e.0 e.1 (within Stands May now limit.Heap query w budget k s next gave p m)
    ends pause.FramesFull p m e answer output = limit_ends budget Stands May now limit.Frames old mid new script (script_from query k s next) next r h e.0 e.1 (within Stands May now limit.Frames query w budget k s next gave p m)
    ends pause.NoMemory p m e answer output = limit_ends budget Stands May now limit.Memory old mid new script (script_from query k s next) next r h e.0 e.1 (inl (within Stands May now limit.Memory query w budget k s next gave p m))
    ends pause.Spent p m e answer output = absurd p

-- How far a run has come: the state, how many answers it gave, and where its script is.
pub record RunPlace (Stands : State → Type 0) (count : ℕ) (query : ReadTerm) (w : World) (budget : ℕ) (old new : Place) (next : World → Script) : Type 0 where
  pub at : State
  pub stands : Stands at
  pub done : ℕ
  pub counts : IsCount count done
  pub gave : Runs query w budget done at
  pub advances : Advances old new (query_script budget (Readable query) w next) (script_from query done at next)

pub run_begins : (Stands : State → Type 0) (query : ReadTerm) (w : World) (budget : ℕ) (old : Place) (next : World → Script) → Stands (started (query_goal query.term) budget w)
    → RunPlace Stands 0 query w budget old old next
run_begins Stands query w budget old next stands = record {
  at = started (query_goal query.term) budget w;
  stands = stands;
  done = 0;
  counts = refl;
  gave = begun;
  advances = advance_run old w.runs (script_from query 0 (started (query_goal query.term) budget w) next);
}

-- the run gave an output, which is to be written
pub record OutputTurn (Later : State → Type 0) (count : ℕ) (bytes : List ℕ) (query : ReadTerm) (w : World) (budget : ℕ) (old mid : Place) (next : World → Script) : Type 0 where
  pub at : State
  pub stands : Later at
  pub done : ℕ
  pub counts : IsCount count done
  pub gave : Runs query w budget done at
  pub advances : Advances old mid (query_script budget (Readable query) w next) (Shows (Output bytes) (script_from query done at next))

-- the run gave an answer, which is to be written
pub record AnswerTurn (Later : State → Type 0) (count : ℕ) (values : List Tree) (query : ReadTerm) (w : World) (budget : ℕ) (old mid : Place) (next : World → Script) : Type 0 where
  pub at : State
  pub stands : Later at
  pub k : ℕ
  pub counts : IsCount count k
  pub gave : Runs query w budget k at
  pub advances : Advances old mid (query_script budget (Readable query) w next) (Shows (Line (answer_line at.world.operators k query.names values)) (script_from query k at next))

module _ {query : ReadTerm} {w : World} {budget : ℕ} {old mid : Place} {next : World → Script} where
  pub output_comes : {Stands Later : State → Type 0} {count : ℕ} {bytes : List ℕ} → (p : RunPlace Stands count query w budget old mid next) → Comes p.at (Wrote bytes) Later
      → OutputTurn Later count bytes query w budget old mid next
  output_comes p c = record {
    at = c.new;
    stands = c.stands;
    done = p.done;
    counts = p.counts;
    gave = gave_output p.gave c.quiet c.last;
    advances = subst (λ z. Advances old mid (query_script budget (Readable query) w next) z) (ap (λ z. run_script query.names (p.done + 1) z next) (comes_run c)) p.advances;
  }

  pub output_breaks : {Later : State → Type 0} {count : ℕ} {bytes : List ℕ} → (Stands : State → Type 0) (May : Limit → State → Type 0) (now : Phase) (new : Place) (behind : World → Script) (r : Result Flow Fault)
      → OutputTurn Later count bytes query w budget old mid next → IsErr r → Begins mid.0 new.0 bytes → Does budget Stands May now old new (query_script budget (Readable query) w next) behind r
  output_breaks {bytes = bytes} Stands May now new behind r t failed b =
      let rest = script_from query t.done t.at next in
      breaks_after budget Stands May now old mid new (query_script budget (Readable query) w next) (Shows (Output bytes) rest) behind r t.advances failed
      (begins_before mid.0 new.0 bytes (script_bytes (ends_within mid.1 bytes) rest) b)

  pub output_goes : {Later : State → Type 0} {count : ℕ} {bytes : List ℕ} → (new : Place) → OutputTurn Later count bytes query w budget old mid next → Appends mid.0 new.0 bytes → new.1 ≡ ends_within mid.1 bytes
      → RunPlace Later count query w budget old new next
  output_goes {bytes = bytes} new t written within = record {
    at = t.at;
    stands = t.stands;
    done = t.done;
    counts = t.counts;
    gave = t.gave;
    advances = advance_on t.advances (advance_segment mid new (Output bytes) (script_from query t.done t.at next) written within);
  }

  pub answer_comes : {Stands Later : State → Type 0} {count : ℕ} {values : List Tree} → (later : ℕ) (p : RunPlace Stands count query w budget old mid next) → Comes p.at (Answered values) Later
      → later ≡ min (count + 1) 18446744073709551615 → AnswerTurn Later later values query w budget old mid next
  answer_comes later p c counted = record {
    at = c.new;
    stands = c.stands;
    k = p.done + 1;
    counts = omega (arith, counted, p.counts);
    gave = gave_answer p.gave c.quiet c.last;
    advances = subst (λ z. Advances old mid (query_script budget (Readable query) w next) z) (ap (λ z. run_script query.names (p.done + 1) z next) (comes_run c)) p.advances;
  }

abbrev answer_by : List Operator → List ℕ → List (List ℕ × ℕ) → List Tree → List ℕ
answer_by table number names values = codes "answer " ++ (number ++ (codes ":" ++ solution_text table names values))

answer_same : (table operators : List Operator) (count k : ℕ) (names : List (List ℕ × ℕ)) (values : List Tree) → table ≡ operators → IsCount count k
    → answer_line table count names values ≡ answer_line operators k names values
answer_same table operators count k names values same counts = ap₂ (λ o z. answer_by o z names values) same (counted_same count k counts)

module _ {Later : State → Type 0} {count : ℕ} {values : List Tree} {query : ReadTerm} {w : World} {budget : ℕ} {old mid : Place} {next : World → Script} where
  abbrev rest_of : AnswerTurn Later count values query w budget old mid next → Script
  rest_of t = script_from query t.k t.at next

  abbrev line_of : AnswerTurn Later count values query w budget old mid next → List ℕ
  line_of t = answer_line t.at.world.operators t.k query.names values

  line_same : (t : AnswerTurn Later count values query w budget old mid next) (table : List Operator) → table ≡ t.at.world.operators → answer_line table count query.names values ≡ line_of t
  line_same t table same = answer_same table t.at.world.operators count t.k query.names values same t.counts

  -- the answer was written, or memory for its line was refused
  pub answer_stops : (May : Limit → State → Type 0) (now : Phase) (new : Place) (f : Flow) (t : AnswerTurn Later count values query w budget old mid next) (table : List Operator) → table ≡ t.at.world.operators → now ≡ Ready → (f ≡ flow.On → ⊥)
      → PutsLine (answer_line table count query.names values) flow.On mid new (Ok f) → Does budget Later May now old new (query_script budget (Readable query) w next) next (Ok f)
  answer_stops May now new f t table same ready ends (inl puts) = absurd (ends puts.0)
  answer_stops May now new f t table same ready ends (inr puts) =
      rw (puts.0, puts.1) (record { rest = Shows (Line (line_of t)) (rest_of t); advances = t.advances; stops = inr (ready_awake now ready) })

  pub answer_breaks : (May : Limit → State → Type 0) (now : Phase) (new : Place) (r : Result Flow Fault) (t : AnswerTurn Later count values query w budget old mid next) (table : List Operator)
      → table ≡ t.at.world.operators → IsErr r → Begins mid.0 new.0 (segment_bytes mid.1 (Line (answer_line table count query.names values)))
      → Does budget Later May now old new (query_script budget (Readable query) w next) next r
  answer_breaks May now new r t table same failed b =
      let line = subst (λ z. Begins mid.0 new.0 (segment_bytes mid.1 (Line z))) (line_same t table same) b in
      breaks_after budget Later May now old mid new (query_script budget (Readable query) w next) (Shows (Line (line_of t)) (rest_of t)) next r t.advances failed
      (begins_before mid.0 new.0 (segment_bytes mid.1 (Line (line_of t))) (script_bytes false (rest_of t)) line)

  pub answer_goes : (new : Place) (t : AnswerTurn Later count values query w budget old mid next) (table : List Operator) → table ≡ t.at.world.operators → PutsLine (answer_line table count query.names values) flow.On mid new (Ok flow.On)
      → RunPlace Later count query w budget old new next
  answer_goes new t table same (inl puts) =
      let line = subst (λ z. Appends mid.0 new.0 (segment_bytes mid.1 (Line z))) (line_same t table same) puts.1 in
      record {
        at = t.at;
        stands = t.stands;
        done = t.k;
        counts = t.counts;
        gave = t.gave;
        advances = advance_on t.advances (advance_segment mid new (Line (line_of t)) (rest_of t) line puts.2);
      }
  answer_goes new t table same (inr puts) = cc

-- a query was not started
pub start_refused : (Stands : State → Type 0) (May : Limit → State → Type 0) (now : Phase) (l : Limit) (query : ReadTerm) (budget : ℕ) (s : State) (next : World → Script)
    → Stands s × (now ≡ Spent l) → MayRefuse l → May l (started (query_goal query.term) budget s.world)
    → StopsIn budget Stands May now l (query_script budget (Readable query) s.world next) (query_script budget (Readable query) s.world next)
start_refused Stands May now l query budget s next stands refuses may = record { at = s; stands = stands.0; spent = stands.1; stops = before_run query s.world next refl refuses may }

pub stops_before : (budget : ℕ) (Stands : State → Type 0) (May : Limit → State → Type 0) (now : Phase) (l : Limit) (old : Place) (script : Script) → EngineStops budget Stands May now script l script
    → Stops budget Stands May now l old old script
stops_before budget Stands May now l old script stops = record { rest = script; advances = advance_none old script; stops = stops }

-- How far the queries were run: what is left of them, and where their script is.
pub record QueriesPlace (Stands : State → Type 0) (budget : ℕ) (ts : List Shown) (old new : Place) (script : Script) : Type 0 where
  pub at : State
  pub stands : Stands at
  pub turns : ℕ
  pub enough : length ts ≤ turns
  pub advances : Advances old new script (queries_script turns budget ts at.world)

pub queries_begin : (Stands : State → Type 0) (s : State) (budget : ℕ) (ts : List Shown) (old : Place) → Stands s
    → QueriesPlace Stands budget ts old old (queries_script (length ts) budget ts s.world)
queries_begin Stands s budget ts old stands = record {
  at = s;
  stands = stands;
  turns = length ts;
  enough = omega arith;
  advances = advance_none old (queries_script (length ts) budget ts s.world);
}

queries_over : (turns budget : ℕ) (w : World) → queries_script turns budget [] w ≡ Closes Done
unfolding queries_script
queries_over zero budget w = refl
queries_over (suc turns) budget w = refl

-- no query is left
pub queries_end : (Stands : State → Type 0) (now : Phase) (budget : ℕ) (ts : List Shown) (old new : Place) (script : Script)
    → (p : QueriesPlace Stands budget ts old new script) → now ≡ Ready → next_item p.at.world.operators p.at.world.flags ts ≡ None → GoesOn Stands now old new script (λ _. Closes Done)
queries_end Stands now budget ts old new script p ready none =
    let over = ap (λ z. queries_script p.turns budget z p.at.world) (empty_by p.at.world.operators p.at.world.flags ts none) ∙ queries_over p.turns budget p.at.world in
    record { at = p.at; stands = p.stands; ready = ready; advances = subst (λ z. Advances old new script z) over p.advances }

query_turn : (turns budget : ℕ) (ts : List Shown) (x : Taken) (w : World) → next_item w.operators w.flags ts ≡ Some x
    → queries_script (suc turns) budget ts w ≡ query_script budget x.item w (queries_script turns budget x.behind)
unfolding queries_script
query_turn turns budget ts x w h = ap (λ o. queries_by budget w o (queries_script turns budget)) h

-- the next query, and the script behind it
pub record QueryTurn (Stands : State → Type 0) (budget : ℕ) (i : Item) (behind : List Shown) (old mid : Place) (script : Script) : Type 0 where
  pub at : State
  pub stands : Stands at
  pub turns : ℕ
  pub enough : length behind ≤ turns
  pub advances : Advances old mid script (query_script budget i at.world (queries_script turns budget behind))

queries_turn : (Stands : State → Type 0) (budget : ℕ) (ts : List Shown) (x : Taken) (old mid : Place) (script : Script)
    → (p : QueriesPlace Stands budget ts old mid script) → next_item p.at.world.operators p.at.world.flags ts ≡ Some x → length x.behind < length ts → QueryTurn Stands budget x.item x.behind old mid script
queries_turn Stands budget ts x old mid script p item shorter =
    let some = p.turns - 1 in
    let turn : p.turns ≡ suc some = omega (arith, p.enough, shorter) in
    let whole = ap (λ n. queries_script n budget ts p.at.world) turn ∙ query_turn some budget ts x p.at.world item in
    record { at = p.at; stands = p.stands; turns = some; enough = omega (arith, p.enough, shorter); advances = subst (λ z. Advances old mid script z) whole p.advances }

-- the turn of the query that was found
pub query_found : (Stands : State → Type 0) (budget : ℕ) (ts behind : List Shown) (o : Option RustItem) (i : RustItem) (old mid : Place) (script : Script)
    → (p : QueriesPlace Stands budget ts old mid script) → next_item p.at.world.operators p.at.world.flags ts ≡ found o behind → o ≡ Some i → IfSome o (λ _. length behind < length ts)
    → QueryTurn Stands budget (item_read i) behind old mid script
query_found Stands budget ts behind o i old mid script p item some shorter =
    let here = rw some at item in
    let less = rw some at shorter in
    queries_turn Stands budget ts (record { item = item_read i; behind = behind }) old mid script p here less

-- the query was run, and the session goes on
pub query_goes : (Stands Later : State → Type 0) (now : Phase) (budget : ℕ) (i : Item) (behind : List Shown) (old mid new : Place) (script : Script)
    → (t : QueryTurn Stands budget i behind old mid script)
    → GoesOn Later now mid new (query_script budget i t.at.world (queries_script t.turns budget behind)) (queries_script t.turns budget behind)
    → (now ≡ Ready) × QueriesPlace Later budget behind old new script
query_goes Stands Later now budget i behind old mid new script t g =
    (g.ready, record { at = g.at; stands = g.stands; turns = t.turns; enough = t.enough; advances = advance_on t.advances g.advances })
