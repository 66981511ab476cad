-- Laws of the answers of a search over definite clauses: each is a consequence of the clauses, and where the search
-- finds no more, they are all of them.
use Rattle.std.specs.Prelude.{◌≡◌, ℕ, List}
use Rattle.iso_model.specs.Terms.Trees.{Tree}
use Rattle.iso_model.specs.Terms.Substitutions.{Subst, apply}
use Rattle.iso_model.specs.Search.Databases.{Procedures}
use Rattle.iso_model.specs.Search.Walker.{World, NoMore, started, asked}
use Rattle.iso_model.specs.Search.RunLaws.{run_of}
use Rattle.iso_logic.specs.Provability.{Proves}
use Rattle.iso_logic.specs.DefiniteClauses.{IsDefinite}
use Rattle.iso_logic.specs.DefiniteQueries.{IsDefiniteQuery}
use Rattle.iso_logic.specs.Leaves.{goals_of, Leaves}
use Rattle.iso_logic.specs.Answers.{ending_of, end_world, answers_of, EachAnswer, IsInstanceOfOne}
use Rattle.iso_logic.specs.Variants.{VariantLists}

-- Each answer is proved (soundness).
abbrev pub AnswersAreProved : Type 0
AnswersAreProved =
    (goal : Tree) (budget : ℕ) (w : World) → IsDefinite w.database.procedures → IsDefiniteQuery goal
    → EachAnswer (Proves w.database.procedures) goal (run_of (started goal budget w))

-- Where the search finds no more, every instance of the query that is proved is an instance of the query under some
-- answer (completeness).
abbrev pub AnswersAreComplete : Type 0
AnswersAreComplete =
    (goal : Tree) (budget : ℕ) (w : World) → IsDefinite w.database.procedures → IsDefiniteQuery goal
    → ending_of (run_of (started goal budget w)) ≡ NoMore
    → (s : Subst) → Proves w.database.procedures (apply s goal) → IsInstanceOfOne (apply s goal) (answers_of goal (run_of (started goal budget w)))

-- Where the search finds no more, the query under the answers' values is the list of the leaves, in order, with
-- repetitions.
abbrev pub AnswersAreLeaves : Type 0
AnswersAreLeaves =
    (goal : Tree) (budget : ℕ) (w : World) → IsDefinite w.database.procedures → IsDefiniteQuery goal
    → ending_of (run_of (started goal budget w)) ≡ NoMore
    → Leaves w.database.procedures (goals_of goal) goal (answers_of goal (run_of (started goal budget w)))

-- There is at most one list of leaves, up to variables' numbers in each member.
abbrev pub LeavesAreOneList : Type 0
LeavesAreOneList =
    (ps : Procedures) (goal t : Tree) (l m : List Tree) → IsDefinite ps → IsDefiniteQuery goal
    → Leaves ps (goals_of goal) t l → Leaves ps (goals_of goal) t m → VariantLists l m

-- Such a search changes nothing that outlives it, but that one run more was started.
abbrev pub RunsKeepTheWorld : Type 0
RunsKeepTheWorld =
    (goal : Tree) (budget : ℕ) (w : World) → IsDefinite w.database.procedures → IsDefiniteQuery goal
    → end_world (run_of (started goal budget w)) ≡ asked w
