-- What the laws of answers say to a caller of an engine, answer by answer.
use Rattle.std.specs.Prelude.{◌≡◌, ℕ, List, [], ◌∷◌, ◌++◌, map}
use Rattle.iso_model.specs.Terms.Trees.{Tree}
use Rattle.iso_model.specs.Terms.TermOf.{term_of}
use Rattle.iso_model.specs.Terms.Substitutions.{Subst, apply}
use Rattle.iso_model.specs.Search.Databases.{Procedures}
use Rattle.iso_model.specs.Search.Walker.{State, World, Answered, Wrote, NoMore, Gives, Ends, step, started}
use Rattle.iso_model.specs.Search.Runs.{Quiet}
use Rattle.iso_model.specs.declared.pauses.Pause.{Pause}
use Rattle.iso_model.specs.declared.pauses.Pause.TheVariants as pause
use Rattle.iso_logic.specs.Provability.{Proves}
use Rattle.iso_logic.specs.DefiniteClauses.{IsDefinite}
use Rattle.iso_logic.specs.DefiniteQueries.{IsDefiniteQuery}
use Rattle.iso_logic.specs.Leaves.{goals_of, Leaves}
use Rattle.iso_logic.specs.Answers.{with_values, IsInstanceOfOne}

-- Behind these answers, in order, and the outputs between them, the run of the first state stands at the second.
pub data HasAnswered (s : State) : List (List Tree) → State → Type 0 where
  none_yet : HasAnswered s [] s
  answer : {l : List (List Tree)} {t u v : State} {values : List Tree} → HasAnswered s l t → Quiet t u → step u ≡ Gives (Answered values) v
      → HasAnswered s (l ++ values ∷ []) v
  output : {l : List (List Tree)} {t u v : State} {bytes : List ℕ} → HasAnswered s l t → Quiet t u → step u ≡ Gives (Wrote bytes) v → HasAnswered s l v

-- the query under each of these values
abbrev pub queries_under : Tree → List (List Tree) → List Tree
queries_under goal l = map (with_values goal) l

-- These are all answers: every instance of the query that is proved is an instance of one of them, and they are the
-- leaves of the query's tree, in order.
pub record AreAllAnswers (ps : Procedures) (goal : Tree) (answers : List Tree) : Type 0 where
  pub complete : (s : Subst) → Proves ps (apply s goal) → IsInstanceOfOne (apply s goal) answers
  pub leaves : Leaves ps (goals_of goal) goal answers

-- Where the run of a definite query over definite clauses has given these answers, the next answer is proved; and
-- where it ends then with no more, these are all answers.
abbrev pub RunsAreConsequences : Type 0
RunsAreConsequences =
    (goal : Tree) (budget : ℕ) (w : World) → IsDefinite w.database.procedures → IsDefiniteQuery goal
    → (l : List (List Tree)) (s : State) → HasAnswered (started goal budget w) l s
    → ((values : List Tree) (at new : State) → Quiet s at → step at ≡ Gives (Answered values) new → Proves w.database.procedures (with_values goal values))
    × ((at : State) (v : World) → Quiet s at → step at ≡ Ends NoMore v → AreAllAnswers w.database.procedures goal (queries_under goal l))

-- ---- an engine

-- An engine that stands for these states is in the run of this goal, started with this budget over this world, behind
-- these answers.
pub record IsBehind (goal : Tree) (budget : ℕ) (w : World) (l : List (List Tree)) (Stands : State → Type 0) : Type 0 where
  pub state : State
  pub stands : Stands state
  pub answered : HasAnswered (started goal budget w) l state

-- What a caller concludes from an answer of `resume` behind these answers. After a solution: the clauses prove the
-- query under its values, and the engine is behind this answer too. After `NoMore`: the answers so far are all. A
-- definite query writes nothing. Any other answer says nothing of what is proved.
abbrev pub Concludes : Tree → ℕ → World → List (List Tree) → Pause → (State → Type 0) → Type 0
Concludes goal budget w l (pause.Answer values) Stands =
    Proves w.database.procedures (with_values goal (map term_of values.items)) × IsBehind goal budget w (l ++ map term_of values.items ∷ []) Stands
Concludes goal budget w l (pause.Output bytes) Stands = ⊥
Concludes goal budget w l pause.NoMore Stands = AreAllAnswers w.database.procedures goal (queries_under goal l)
Concludes goal budget w l pause.Budget Stands = Unit {0}
Concludes goal budget w l (pause.Uncaught ball) Stands = Unit {0}
Concludes goal budget w l (pause.Halt status) Stands = Unit {0}
Concludes goal budget w l pause.HeapFull Stands = Unit {0}
Concludes goal budget w l pause.FramesFull Stands = Unit {0}
Concludes goal budget w l pause.NoMemory Stands = Unit {0}
Concludes goal budget w l pause.Spent Stands = Unit {0}
