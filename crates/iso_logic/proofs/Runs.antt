-- Runs of a search over definite clauses: each answer is proved, and where there are no more the answers are the
-- leaves.
use Rattle.std.proofs.Common.{◌≡◌, ℕ, List, [], ◌∷◌, ◌++◌, refl, sym, ap, ap₂, ◌∙◌, subst, arith}
use Rattle.std.proofs.lemmas.Bool.{eqb-true}
use Rattle.iso_model.specs.Terms.Trees.{Tree, Variable}
use Rattle.iso_model.specs.Terms.Variables.{variable_count}
use Rattle.iso_model.specs.Terms.Substitutions.{apply}
use Rattle.iso_model.specs.Terms.UnifierLaws.{AllBelow}
use Rattle.iso_model.specs.Terms.Unification.Applied.{apply_none}
use Rattle.iso_model.specs.Search.Bodies.{body_term}
use Rattle.iso_model.specs.Search.Databases.{Procedures}
use Rattle.iso_model.specs.Search.Walker.{State, World, Goal, Answered, Wrote, NoMore, started, opening, shown_query, asked}
use Rattle.iso_model.specs.Search.Runs.{Trace, Run as RunOf, goes, gives, ends}
use Rattle.iso_model.specs.Search.RunLaws.{run_of, run_of_is}
use Rattle.iso_logic.specs.Provability.{Proves}
use Rattle.iso_logic.specs.DefiniteClauses.{IsDefinite}
use Rattle.iso_logic.specs.Leaves.{images, Leaves, goals_of}
use Rattle.iso_logic.specs.Answers.{ending_of, answers_of, EachAnswer}
use Rattle.iso_logic.specs.AnswerLaws.{AnswersAreProved, AnswersAreLeaves}
use Rattle.iso_logic.proofs.GoalLemmas.{parts_of, parts_are}
use Rattle.iso_logic.proofs.States.{running, GoodParts, Good, Here, StateLeaves, Ended, Steps}
use Rattle.iso_logic.proofs.StepCases.{join_nothing, step_steps}
use Rattle.iso_logic.proofs.Conversions.{IsConverted, query_converts, body_back, body_below}
use Rattle.iso_logic.specs.DefiniteQueries.{IsDefiniteQuery}

-- ---- the start

started_parts : (goal : Tree) (w : World) (c : IsConverted goal)
    → GoodParts w.database.procedures goal (variable_count goal) Variable (Goal c.body 0 ∷ []) [] (asked w) (body_term c.body)
started_parts goal w c =
    let n = variable_count goal in
    let same = body_back n goal c.body c.converts c.goals in
    record {
      world = refl;
      asks = same;
      list = running (record {
        substitution = record { finite = (0, λ n high. refl); idempotent = λ n m binds. absurd (binds refl) };
        below = record { bound = λ n high. refl; values = λ n m low o. (let is = eqb-true n m o in omega arith) };
        query = subst (AllBelow n) same (body_below n c.body c.goals);
        goals = (c.goals, tt);
        sound = λ t goes_on holds. subst (λ x. Proves w.database.procedures (apply t x)) same holds.0;
      });
      entries = tt;
    }

pub started_good : (goal : Tree) (budget : ℕ) (w : World) → IsDefiniteQuery goal → Good w.database.procedures goal (started goal budget w)
started_good goal budget w query =
    let c = query_converts goal query in
    subst (λ o. GoodParts w.database.procedures goal (variable_count goal) Variable (opening goal o) [] (asked w) (shown_query goal o)) (sym c.converts)
    (started_parts goal w c)

images_none : (xs : List Tree) → images Variable xs ≡ xs
images_none [] = refl
images_none (x ∷ xs) = ap₂ (λ y ys. y ∷ ys) (apply_none x) (images_none xs)

started_leaves : (goal : Tree) (budget : ℕ) (w : World) → IsDefiniteQuery goal → (l : List Tree)
    → StateLeaves w.database.procedures goal (started goal budget w) l
    → Leaves w.database.procedures (goals_of goal) goal l
started_leaves goal budget w query l h =
    let ps = w.database.procedures in
    let c = query_converts goal query in
    let n = variable_count goal in
    let own : parts_of c.body ≡ goals_of goal = sym (parts_are n c.body c.goals) ∙ ap goals_of (body_back n goal c.body c.converts c.goals) in
    let here : Here ps goal Variable (Goal c.body 0 ∷ []) h.front = subst (λ o. Here ps goal Variable (opening goal o) h.front) c.converts h.in_front in
    let goals : Leaves ps (goals_of goal) (apply Variable goal) h.front =
    subst (λ xs. Leaves ps xs (apply Variable goal) h.front) (images_none (parts_of c.body ++ []) ∙ join_nothing (parts_of c.body) ∙ own) here in
    let asked_for : Leaves ps (goals_of goal) goal h.front = subst (λ t. Leaves ps (goals_of goal) t h.front) (apply_none goal) goals in
    subst (Leaves ps (goals_of goal) goal) (sym (join_nothing h.front) ∙ ap (λ xs. h.front ++ xs) (sym h.behind) ∙ sym h.whole) asked_for

-- ---- runs

module _ (ps : Procedures) (q : Tree) (definite : IsDefinite ps) where
  run_proved : {s : State} {r : Trace} → RunOf s r → Good ps q s → EachAnswer (Proves ps) q r
  run_proved (goes {s = s} {t = t} h k) good = let now = subst (Steps ps q (StateLeaves ps q s)) h (step_steps ps q definite s good) in run_proved k now.0
  run_proved (gives {s = s} {t = t} {e = Answered vs} h k) good =
      let now = subst (Steps ps q (StateLeaves ps q s)) h (step_steps ps q definite s good) in (now.1, run_proved k now.0)
  run_proved (gives {s = s} {t = t} {e = Wrote bytes} h k) good = absurd (subst (Steps ps q (StateLeaves ps q s)) h (step_steps ps q definite s good))
  run_proved (ends h) good = tt

  run_leaves : {s : State} {r : Trace} → RunOf s r → Good ps q s → ending_of r ≡ NoMore → StateLeaves ps q s (answers_of q r)
  run_leaves (goes {s = s} {t = t} {r = r} h k) good none =
      let now = subst (Steps ps q (StateLeaves ps q s)) h (step_steps ps q definite s good) in now.1 (answers_of q r) (run_leaves k now.0 none)
  run_leaves (gives {s = s} {t = t} {e = Answered vs} {r = r} h k) good none =
      let now = subst (Steps ps q (StateLeaves ps q s)) h (step_steps ps q definite s good) in now.2 (answers_of q r) (run_leaves k now.0 none)
  run_leaves (gives {s = s} {t = t} {e = Wrote bytes} h k) good none = absurd (subst (Steps ps q (StateLeaves ps q s)) h (step_steps ps q definite s good))
  run_leaves (ends {s = s} {e = e} {w = w} h) good none =
      let now = subst (Steps ps q (StateLeaves ps q s)) h (step_steps ps q definite s good) in subst (λ x. Ended x (StateLeaves ps q s [])) none now.1

-- each answer is proved
pub answers_proved : AnswersAreProved
answers_proved goal budget w definite query =
    run_proved w.database.procedures goal definite (run_of_is (started goal budget w)) (started_good goal budget w query)

-- where there are no more, the answers are the leaves
pub answers_leaves : AnswersAreLeaves
answers_leaves goal budget w definite query none =
    started_leaves goal budget w query (answers_of goal (run_of (started goal budget w)))
    (run_leaves w.database.procedures goal definite (run_of_is (started goal budget w)) (started_good goal budget w query) none)
