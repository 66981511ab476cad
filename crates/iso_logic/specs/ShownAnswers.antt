-- What a session of a definite program shows, said with no search: each answer line stands for an answer that the
-- program proves, and `end: no more` stands behind all of them.
use Rattle.std.specs.Prelude.{◌≡◌, ℕ, ◌+◌, List, [], ◌∷◌, ◌++◌, true, Option, Some, codes}
use Rattle.iso_model.specs.Syntax.Token.{Shown}
use Rattle.iso_model.specs.Syntax.Tokens.{tokens}
use Rattle.iso_model.specs.Syntax.Grammar.{ReadTerm}
use Rattle.iso_model.specs.Syntax.Items.{Item, Readable, Unreadable, Taken, next_item}
use Rattle.iso_model.specs.Terms.Trees.{Tree}
use Rattle.iso_model.specs.Terms.Substitutions.{Subst, apply}
use Rattle.iso_model.specs.Search.Walker.{World, first_world}
use Rattle.iso_model.specs.Session.Lines.{answer_line, error_line}
use Rattle.iso_model.specs.Session.Sessions.{Begins, Line, Script, Shows, Closes, Done, query_goal, session_script}
use Rattle.iso_model.specs.Session.Beginnings.{SessionOutcome, Writes}
use Rattle.iso_logic.specs.DefinitePrograms.{are_goals, are_definite}
use Rattle.iso_logic.specs.ProgramProofs.{ProvedBy}
use Rattle.iso_logic.specs.Answers.{with_values, IsInstanceOfOne}
use Rattle.iso_logic.specs.Sessions.{IsTextOf}

-- the next query that the tokens have, by the operators and flags of a new session
abbrev pub next_query : List Shown → Option Taken
next_query ts = next_item first_world.operators first_world.flags ts

-- a query is a conjunction of goals of user procedures, or a syntax error
abbrev pub IsUserQuery : Item → Type 0
IsUserQuery Unreadable = Unit {0}
IsUserQuery (Readable c) = are_goals (query_goal c.term) ≡ true

-- so is each query that the tokens have
pub data AreUserQueries : List Shown → Type 0 where
  no_query : AreUserQueries []
  a_query : {ts : List Shown} {x : Taken} → next_query ts ≡ Some x → IsUserQuery x.item → AreUserQueries x.behind → AreUserQueries ts

-- What the query with this goal and these named variables shows from its k-th answer on, behind these answers: lines,
-- and then the rest of the script. An answer is the goal under a substitution. The program proves it. The line
-- `end: no more` comes only where each instance of the goal that the program proves is an instance of an answer.
pub data ShowsAnswers (program : List Tree) (goal : Tree) (names : List (List ℕ × ℕ)) (rest : Script) : ℕ → List Tree → Script → Type 0 where
  an_answer : {k : ℕ} {before : List Tree} {others : Script} (values : List Tree) → ProvedBy program (with_values goal values)
      → ShowsAnswers program goal names rest (k + 1) (before ++ with_values goal values ∷ []) others
      → ShowsAnswers program goal names rest k before (Shows (Line (answer_line first_world.operators k names values)) others)
  these_are_all : {k : ℕ} {before : List Tree} → ((s : Subst) → ProvedBy program (apply s goal) → IsInstanceOfOne (apply s goal) before)
      → ShowsAnswers program goal names rest k before (Shows (Line (codes "end: no more")) rest)
  budget_ends : {k : ℕ} {before : List Tree} → ShowsAnswers program goal names rest k before (Shows (Line (codes "end: budget")) rest)
  error_ends : {k : ℕ} {before : List Tree} (ball : Tree) → ShowsAnswers program goal names rest k before (Shows (Line (error_line first_world.operators ball)) rest)

-- what the queries of these tokens show
pub data ShowsQueries (program : List Tree) : List Shown → Script → Type 0 where
  none_left : ShowsQueries program [] (Closes Done)
  syntax_error : {ts : List Shown} {x : Taken} {others : Script} → next_query ts ≡ Some x → x.item ≡ Unreadable → ShowsQueries program x.behind others
      → ShowsQueries program ts (Shows (Line (codes "end: syntax error")) others)
  one_query : {ts : List Shown} {x : Taken} {c : ReadTerm} {runs : ℕ} {shown others : Script} → next_query ts ≡ Some x → x.item ≡ Readable c
      → ShowsAnswers program (query_goal c.term) c.names others 1 [] shown → ShowsQueries program x.behind others → ShowsQueries program ts (Shows (Begins runs) shown)

-- Let a text be definite clauses alone, none of them refused, and each query a conjunction of goals of user
-- procedures. Then the program proves each answer of the session's script, and those before an `end: no more` are all.
abbrev pub SessionsShowConsequences : Type 0
SessionsShowConsequences =
    (text queries : List ℕ) (budget : ℕ) (program : List Tree) (w : World)
    → IsTextOf text program w → are_definite program ≡ true → AreUserQueries (tokens queries)
    → ShowsQueries program (tokens queries) (session_script text queries budget)

-- For such a text and such queries, a session that ended so wrote the bytes of such a script, or a beginning of them.
abbrev pub WritesConsequences : List ℕ → List ℕ → Option (List ℕ) → Option (List ℕ) → SessionOutcome → Type 0
WritesConsequences text queries old new outcome =
    (program : List Tree) (w : World) → IsTextOf text program w → are_definite program ≡ true → AreUserQueries (tokens queries)
    → (script : Script) × ShowsQueries program (tokens queries) script × Writes script (λ limit rest. Unit {0}) old new outcome
