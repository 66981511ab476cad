-- What a session of a definite program shows: its script is such lines.
use Rattle.std.proofs.Common.{◌≡◌, ℕ, zero, suc, ◌+◌, ◌<◌, ◌≤◌, List, [], ◌∷◌, ◌++◌, Bool, true, false, Option, Some, None, refl, sym, ap, ap₂, ◌∙◌, subst, length, arith, if◌then◌else◌, ◌↔◌}
use Rattle.std.specs.Prelude.{option_map}
use Rattle.iso_model.specs.Syntax.Token.{Shown}
use Rattle.iso_model.specs.Syntax.Tokens.{tokens}
use Rattle.iso_model.specs.Syntax.Clauses.{is_end, behind_token, split_clause, behind_by, behind_clause}
use Rattle.iso_model.specs.Syntax.Items.{Item, Readable, Unreadable, Taken, next_item}
use Rattle.iso_model.specs.Terms.Trees.{Tree}
use Rattle.iso_model.specs.Terms.Substitutions.{Subst, apply}
use Rattle.iso_model.specs.Search.Databases.{Procedures}
use Rattle.iso_model.specs.Search.Walker.{World, first_world, asked, Answered, Wrote, Ending, NoMore, Budget, Uncaught, Halted, started}
use Rattle.iso_model.specs.Search.Runs.{Trace, Then, Stops}
use Rattle.iso_model.specs.Search.RunLaws.{run_of}
use Rattle.iso_model.specs.declared.limit.Limit.{Limit}
use Rattle.iso_model.specs.Session.Lines.{answer_line, error_line}
use Rattle.iso_model.specs.Session.Sessions.{Line, Script, Shows, run_script, query_goal, query_script, queries_by, queries_script, kept_script, session_script, whole_queries}
use Rattle.iso_model.specs.Session.Beginnings.{SessionOutcome, Closed, Limited, Broken, IsWritten, whole, cut, Writes, SessionWrites}
use Rattle.iso_logic.specs.Provability.{Proves}
use Rattle.iso_logic.specs.ProgramProofs.{ProvedBy}
use Rattle.iso_logic.specs.DefiniteClauses.{IsDefinite}
use Rattle.iso_logic.specs.DefiniteQueries.{IsDefiniteQuery}
use Rattle.iso_logic.specs.Answers.{with_values, ending_of, answers_of, EachAnswer, IsInstanceOfOne}
use Rattle.iso_logic.specs.Sessions.{AreClauses, no_turn, no_item, one_more}
use Rattle.iso_logic.specs.ShownAnswers.{next_query, IsUserQuery, AreUserQueries, no_query, a_query, ShowsAnswers, an_answer, these_are_all, budget_ends, error_ends, ShowsQueries, none_left, syntax_error, one_query, SessionsShowConsequences, WritesConsequences}
use Rattle.iso_logic.proofs.ReadTerms.{item_read, goal_read}
use Rattle.iso_logic.proofs.Worlds.{NoHalt, StaysIn, runs_stay}
use Rattle.iso_logic.proofs.ProgramProofs.{consulted_definite, nothing_definite, programs_prove}
use Rattle.iso_logic.proofs.Sessions.{clauses_consulted, clauses_script, clauses_terms, consequences}

-- ---- each query takes a token

ends_shorter : (b : Bool) (t : Shown) (ts : List Shown) (o : Option (List Shown × List Shown)) (x : List Shown × List Shown)
    → ((y : List Shown × List Shown) → o ≡ Some y → length y.1 < length ts)
    → (if b then Some ([], ts) else option_map (behind_token t) o) ≡ Some x → length x.1 < suc (length ts)
ends_shorter true t ts o x less h = let is : ts ≡ x.1 = cc in omega (arith, ap length is)
ends_shorter false t ts None x less h = cc
ends_shorter false t ts (Some y) x less h =
    let is : y.1 ≡ x.1 = cc in
    let shorter = less y refl in
    omega (arith, ap length is, shorter)

split_shorter : (ts : List Shown) (x : List Shown × List Shown) → split_clause ts ≡ Some x → length x.1 < length ts
split_shorter [] x h = cc
split_shorter (t ∷ ts) x h = ends_shorter (is_end t.kind) t ts (split_clause ts) x (split_shorter ts) h

behind_shorter : (n : ℕ) (o : Option (List Shown × List Shown)) → ((x : List Shown × List Shown) → o ≡ Some x → length x.1 < suc n) → length (behind_by o) ≤ n
behind_shorter n None less = omega arith
behind_shorter n (Some x) less = let shorter = less x refl in omega arith

query_shorter : (ts : List Shown) (x : Taken) (n : ℕ) → next_query ts ≡ Some x → length ts ≤ suc n → length x.behind ≤ n
query_shorter [] x n h le = let clash : None ≡ Some x = h in cc
query_shorter (t ∷ ts) x n h le =
    let behind : behind_clause (t ∷ ts) ≡ x.behind = cc in
    let shorter = behind_shorter (length ts) (split_clause (t ∷ ts)) (split_shorter (t ∷ ts)) in
    omega (arith, ap length behind, shorter, le)

no_turn_left : (ts : List Shown) (x : Taken) → next_query ts ≡ Some x → length ts ≤ zero → ⊥
no_turn_left [] x h le = let clash : None ≡ Some x = h in cc
no_turn_left (t ∷ ts) x h le = omega (arith, le)

-- ---- lists

nothing_more : (ts : List Tree) → ts ++ [] ≡ ts
nothing_more [] = refl
nothing_more (t ∷ ts) = ap (λ us. t ∷ us) (nothing_more ts)

one_on : (ts : List Tree) (t : Tree) (us : List Tree) → ts ++ t ∷ us ≡ (ts ++ t ∷ []) ++ us
one_on [] t us = refl
one_on (u ∷ ts) t us = ap (λ vs. u ∷ vs) (one_on ts t us)

-- ---- the answers of a query

module _ (program : List Tree) (goal : Tree) (names : List (List ℕ × ℕ)) (v : World) (same : v.operators ≡ first_world.operators) (next : World → Script) where
  abbrev AreAll : List Tree → Trace → Type 0
  AreAll before r =
      ending_of r ≡ NoMore → (s : Subst) → ProvedBy program (apply s goal) → IsInstanceOfOne (apply s goal) (before ++ answers_of goal r)

  stopped : (k : ℕ) (before : List Tree) (e : Ending) → NoHalt e → AreAll before (Stops e v)
      → ShowsAnswers program goal names (next v) k before (run_script names k (Stops e v) next)
  stopped k before NoMore none all =
      these_are_all (λ s by. subst (IsInstanceOfOne (apply s goal)) (nothing_more before) (all refl s by))
  stopped k before Budget none all = budget_ends
  stopped k before (Uncaught ball) none all =
      subst (λ table. ShowsAnswers program goal names (next v) k before (Shows (Line (error_line table ball)) (next v))) (sym same) (error_ends ball)
  stopped k before (Halted status) none all = absurd none

  answers_shown : (k : ℕ) (before : List Tree) (r : Trace) → StaysIn v r → EachAnswer (ProvedBy program) goal r → AreAll before r
      → ShowsAnswers program goal names (next v) k before (run_script names k r next)
  answers_shown k before (Then (Answered values) w r) stays proved all =
      let a = with_values goal values in
      let table : first_world.operators ≡ w.operators = sym (ap (λ u. u.operators) stays.0 ∙ same) in
      let later = answers_shown (k + 1) (before ++ a ∷ []) r stays.1 proved.1
      (λ none s by. subst (IsInstanceOfOne (apply s goal)) (one_on before a (answers_of goal r)) (all none s by)) in
      subst (λ x. ShowsAnswers program goal names (next v) k before (Shows (Line (answer_line x k names values)) (run_script names (k + 1) r next))) table
      (an_answer values proved.0 later)
  answers_shown k before (Then (Wrote bytes) w r) stays proved all = absurd proved
  answers_shown k before (Stops e w) stays proved all =
      subst (λ u. ShowsAnswers program goal names (next v) k before (run_script names k (Stops e u) next)) (sym stays.0) (stopped k before e stays.1 all)

-- ---- the queries

module _ (program : List Tree) (ps : Procedures) (definite : IsDefinite ps) (same_proofs : (t : Tree) → Proves ps t ↔ ProvedBy program t) (budget : ℕ) where
  -- what one query shows, and those behind it
  query_shown : (ts : List Shown) (x : Taken) (i : Item) (w : World) (next : World → Script) → next_query ts ≡ Some x → x.item ≡ i → IsUserQuery i
      → w.operators ≡ first_world.operators → w.database.procedures ≡ ps → ((v : World) → v ≡ record w { runs = v.runs } → ShowsQueries program x.behind (next v))
      → ShowsQueries program ts (query_script budget i w next)
  query_shown ts x Unreadable w next item is user table same others = syntax_error item is (others w refl)
  query_shown ts x (Readable c) w next item is user table same others =
      let goal = query_goal c.term in
      let term = goal_read c.term (item_read first_world.operators first_world.flags ts x c item is) in
      let query : IsDefiniteQuery goal = record { goals = user; term = term.term; numbered = term.numbered } in
      let r = run_of (started goal budget w) in
      let own = (consequences program ps definite same_proofs budget goal w same query).0 in
      let stays : StaysIn (asked w) r = runs_stay goal budget w (subst IsDefinite (sym same) definite) query in
      let shown = answers_shown program goal c.names (asked w) table next 1 [] r stays own.proved own.complete in
      one_query item is shown (others (asked w) refl)

  queries_shown : {ts : List Shown} → AreUserQueries ts → (turns : ℕ) (w : World) → length ts ≤ turns → w.operators ≡ first_world.operators
      → w.flags ≡ first_world.flags → w.database.procedures ≡ ps → ShowsQueries program ts (queries_script turns budget ts w)
  unfolding queries_script
  queries_shown no_query zero w le table flags same = none_left
  queries_shown no_query (suc turns) w le table flags same = none_left
  queries_shown (a_query {ts = ts} {x = x} item user others) zero w le table flags same = absurd (no_turn_left ts x item le)
  queries_shown (a_query {ts = ts} {x = x} item user others) (suc turns) w le table flags same =
      let read : next_item w.operators w.flags ts ≡ Some x = ap₂ (λ a b. next_item a b ts) table flags ∙ item in
      subst (λ o. ShowsQueries program ts (queries_by budget w o (queries_script turns budget))) (sym read)
      (query_shown ts x x.item w (queries_script turns budget x.behind) item refl user table same
      (λ v is. queries_shown others turns v (query_shorter ts x turns item le)
      (ap (λ u. u.operators) is ∙ table) (ap (λ u. u.flags) is ∙ flags) (ap (λ u. u.database.procedures) is ∙ same)))

-- ---- the script

-- clauses change neither operators nor flags
clauses_read_alike : {turns : ℕ} {ts : List Shown} {w : World} {program : List Tree} {last : World} → AreClauses turns ts w program last
    → (last.operators ≡ w.operators) × (last.flags ≡ w.flags)
clauses_read_alike no_turn = (refl, refl)
clauses_read_alike (no_item none) = (refl, refl)
clauses_read_alike (one_more db item readable clause added others) = clauses_read_alike others

pub sessions_show : SessionsShowConsequences
sessions_show text queries budget program w clauses definite users =
    let made = clauses_consulted clauses in
    let terms = clauses_terms clauses in
    let alike = clauses_read_alike clauses in
    let script : session_script text queries budget ≡ whole_queries budget (tokens queries) w =
    clauses_script budget clauses 1 (λ kept v. kept_script budget kept v (whole_queries budget (tokens queries))) in
    let shown =
    queries_shown program w.database.procedures (consulted_definite made terms definite nothing_definite) (programs_prove program w.database made terms definite) budget
    users (length (tokens queries)) w (omega arith) alike.0 alike.1 refl in
    subst (ShowsQueries program (tokens queries)) (sym script) shown

-- ---- what is written

-- where a limit stops it, nothing is said of the rest
written_weaker : {script : Script} {P : Limit → Script → Type 0} {text : List ℕ} → IsWritten script P text → IsWritten script (λ limit rest. Unit {0}) text
written_weaker whole = whole
written_weaker (cut gave rest is limit stands) = cut gave rest is limit tt

writes_weaker : (script : Script) (P : Limit → Script → Type 0) (old new : Option (List ℕ)) (outcome : SessionOutcome) → Writes script P old new outcome
    → Writes script (λ limit rest. Unit {0}) old new outcome
writes_weaker script P old new (Closed ending) h = h
writes_weaker script P old new (Limited limit) h = record { gave = h.gave; rest = h.rest; is = h.is; bytes = h.bytes; stands = tt }
writes_weaker script P old new Broken h = record { text = h.text; would = written_weaker h.would; begins = h.begins }

-- so a session that writes the bytes of its script writes consequences
pub writes_consequences : (text queries : List ℕ) (budget : ℕ) (P : Limit → Script → Type 0) (old new : Option (List ℕ)) (outcome : SessionOutcome)
    → SessionWrites text queries budget P old new outcome → WritesConsequences text queries old new outcome
writes_consequences text queries budget P old new outcome writes program w clauses definite users =
    let script = session_script text queries budget in
    (script, sessions_show text queries budget program w clauses definite users, writes_weaker script P old new outcome writes)
