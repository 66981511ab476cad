-- A session over a text of definite clauses: it is its queries' runs over the database that the clauses make, and the
-- answers of each are consequences.
use Rattle.std.specs.Prelude.{◌≡◌, ℕ, zero, suc, List, [], ◌∷◌, length, true, Option, Some, None}
use Rattle.iso_model.specs.Syntax.Token.{Shown}
use Rattle.iso_model.specs.Syntax.Tokens.{tokens}
use Rattle.iso_model.specs.Syntax.Items.{Item, Readable, Unreadable, Taken, next_item}
use Rattle.iso_model.specs.Syntax.Grammar.{ReadTerm}
use Rattle.iso_model.specs.Terms.Trees.{Tree}
use Rattle.iso_model.specs.Terms.Substitutions.{Subst, apply}
use Rattle.iso_model.specs.Search.Databases.{Procedures, Database}
use Rattle.iso_model.specs.Search.Additions.{Adds, consulted}
use Rattle.iso_model.specs.Search.Walker.{World, first_world, NoMore, Budget, Uncaught, Halted, started}
use Rattle.iso_model.specs.Search.Runs.{Trace, Then, Stops}
use Rattle.iso_model.specs.Search.RunLaws.{run_of}
use Rattle.iso_model.specs.Session.Directives.{AClause, text_term}
use Rattle.iso_model.specs.Session.Sessions.{session_script, whole_queries, body_of_text, query_goal}
use Rattle.iso_logic.specs.DefinitePrograms.{are_goals, are_definite}
use Rattle.iso_logic.specs.ProgramProofs.{ProvedBy}
use Rattle.iso_logic.specs.Consulting.{Consulted}
use Rattle.iso_logic.specs.Leaves.{goals_of, Leaves}
use Rattle.iso_logic.specs.Answers.{ending_of, answers_of, EachAnswer, IsInstanceOfOne}

-- ---- the text

-- The tokens are these clauses and nothing else, each is added to this world's database, and the last world is the
-- one behind them.
pub data AreClauses : ℕ → List Shown → World → List Tree → World → Type 0 where
  no_turn : {ts : List Shown} {w : World} → AreClauses zero ts w [] w
  no_item : {turns : ℕ} {ts : List Shown} {w : World} → next_item w.operators w.flags ts ≡ None → AreClauses (suc turns) ts w [] w
  one_more : {turns : ℕ} {ts : List Shown} {w last : World} {x : Taken} {c : ReadTerm} {program : List Tree} (db : Database)
      → next_item w.operators w.flags ts ≡ Some x → x.item ≡ Readable c → text_term c.term ≡ AClause → consulted c.term w.database ≡ Adds db
      → AreClauses turns x.behind (record w { database = db }) program last → AreClauses (suc turns) ts w (c.term ∷ program) last

-- the text is these clauses and nothing else, none of them is refused, and this is the world behind them
abbrev pub IsTextOf : List ℕ → List Tree → World → Type 0
IsTextOf text program w = AreClauses (length (tokens (body_of_text text))) (tokens (body_of_text text)) first_world program w

-- ---- the queries

-- what follows a run holds of the world behind it; behind a halt nothing follows
abbrev pub BehindRun : Trace → (World → Type 0) → Type 0
BehindRun (Then e w r) next = BehindRun r next
BehindRun (Stops NoMore w) next = next w
BehindRun (Stops Budget w) next = next w
BehindRun (Stops (Uncaught ball) w) next = next w
BehindRun (Stops (Halted status) w) next = Unit {0}

-- P holds of the goal and the run of this query; then what follows
abbrev pub OfQuery : (Tree → Trace → Type 0) → ℕ → Item → World → (World → Type 0) → Type 0
OfQuery P budget Unreadable w next = next w
OfQuery P budget (Readable c) w next =
    P (query_goal c.term) (run_of (started (query_goal c.term) budget w)) × BehindRun (run_of (started (query_goal c.term) budget w)) next

abbrev pub OfTaken : (Tree → Trace → Type 0) → ℕ → World → Option Taken → (List Shown → World → Type 0) → Type 0
OfTaken P budget w None others = Unit {0}
OfTaken P budget w (Some x) others = OfQuery P budget x.item w (others x.behind)

abbrev pub OfEachQuery : (Tree → Trace → Type 0) → ℕ → ℕ → List Shown → World → Type 0
OfEachQuery P zero budget ts w = Unit {0}
OfEachQuery P (suc turns) budget ts w = OfTaken P budget w (next_item w.operators w.flags ts) (OfEachQuery P turns budget)

-- P holds of the goal and the run of each query that a session runs, in order: the first over this world, each other
-- over the world behind the one before
abbrev pub OfQueries : (Tree → Trace → Type 0) → List ℕ → ℕ → World → Type 0
OfQueries P queries budget w = OfEachQuery P (length (tokens queries)) budget (tokens queries) w

-- ---- the law

-- the query is a conjunction of goals of user procedures
abbrev pub IsConjunction : Tree → Trace → Type 0
IsConjunction goal r = are_goals goal ≡ true

-- The program proves each answer of this run of this query. Where the run finds no more, every instance of the query
-- that the program proves is an instance of an answer, and the answers are the leaves of the query's tree, in order.
pub record AreConsequences (program : List Tree) (ps : Procedures) (goal : Tree) (r : Trace) : Type 0 where
  pub proved : EachAnswer (ProvedBy program) goal r
  pub complete : ending_of r ≡ NoMore → (s : Subst) → ProvedBy program (apply s goal) → IsInstanceOfOne (apply s goal) (answers_of goal r)
  pub leaves : ending_of r ≡ NoMore → Leaves ps (goals_of goal) goal (answers_of goal r)

-- Let a text be definite clauses alone, and each query a conjunction of goals of user procedures. Then the session is
-- that of its queries over the database of the clauses, and the answers of each query are consequences of the
-- program.
abbrev pub SessionsAreLogical : Type 0
SessionsAreLogical =
    (text queries : List ℕ) (budget : ℕ) (program : List Tree) (w : World)
    → IsTextOf text program w → are_definite program ≡ true → OfQueries IsConjunction queries budget w
    → (session_script text queries budget ≡ whole_queries budget (tokens queries) w) × Consulted program first_world.database w.database
    × OfQueries (AreConsequences program w.database.procedures) queries budget w
