-- Answers of an engine, one after the other.
use Rattle.std.proofs.Common.{◌≡◌, ℕ, List, [], ◌∷◌, ◌++◌, map, refl, sym, ap, ◌∙◌, subst}
use Rattle.iso_model.specs.Terms.Trees.{Tree}
use Rattle.iso_model.specs.Terms.TermOf.{term_of}
use Rattle.std.specs.Prelude.{Result, Ok, Err, IfOk}
use Rattle.iso_model.specs.declared.pauses.StartFault.{StartFault}
use Rattle.iso_model.specs.Search.Engines.{Phase, Starts, Pauses}
use Rattle.iso_model.specs.Search.Walker.{State, World, Answered, Wrote, NoMore, Gives, Ends, step, started}
use Rattle.iso_model.specs.Search.Runs.{Quiet}
use Rattle.iso_model.specs.Search.RunLaws.{run_of}
use Rattle.iso_model.proofs.Search.RunLaws.Quiets.{quiet_run, gives_run, ends_run}
use Rattle.iso_model.specs.declared.pauses.Pause.{Pause}
use Rattle.iso_model.specs.declared.pauses.Pause.TheVariants as pause
use Rattle.iso_logic.specs.Provability.{Proves}
use Rattle.iso_logic.specs.DefiniteClauses.{IsDefinite}
use Rattle.iso_logic.specs.DefiniteQueries.{IsDefiniteQuery}
use Rattle.iso_logic.specs.Leaves.{goals_of, Leaves}
use Rattle.iso_logic.specs.Answers.{with_values, ending_of, answers_of, EachAnswer, IsInstanceOfOne}
use Rattle.iso_logic.specs.EngineAnswers.{HasAnswered, none_yet, answer, output, queries_under, AreAllAnswers, RunsAreConsequences, IsBehind, Concludes}
use Rattle.iso_logic.proofs.Runs.{answers_proved, answers_leaves}
use Rattle.iso_logic.proofs.Completeness.{answers_complete}

module _ (P : Tree → Type 0) (q : Tree) (s : State) where
  still_proved : {l : List (List Tree)} {t : State} → HasAnswered s l t → EachAnswer P q (run_of s) → EachAnswer P q (run_of t)
  still_proved none_yet h = h
  still_proved (answer {u = u} before quiet gives) h = (subst (EachAnswer P q) (quiet_run quiet ∙ gives_run u gives) (still_proved before h)).1
  still_proved (output {u = u} before quiet gives) h = absurd (subst (EachAnswer P q) (quiet_run quiet ∙ gives_run u gives) (still_proved before h))

answers_join : (q : Tree) (l : List (List Tree)) (values : List Tree) (r : List Tree) → queries_under q (l ++ values ∷ []) ++ r ≡ queries_under q l ++
    (with_values q values ∷ r)
answers_join q [] values r = refl
answers_join q (x ∷ xs) values r = ap (λ ys. with_values q x ∷ ys) (answers_join q xs values r)

module _ (q : Tree) (s : State) where
  all_answers : {l : List (List Tree)} {t : State} → HasAnswered s l t → answers_of q (run_of s) ≡ queries_under q l ++ answers_of q (run_of t)
  all_answers none_yet = refl
  all_answers (answer {l = l} {u = u} {v = v} {values = values} before quiet gives) =
      all_answers before ∙ ap (λ r. queries_under q l ++ answers_of q r) (quiet_run quiet ∙ gives_run u gives)
      ∙ sym (answers_join q l values (answers_of q (run_of v)))
  all_answers (output {l = l} {u = u} before quiet gives) =
      all_answers before ∙ ap (λ r. queries_under q l ++ answers_of q r) (quiet_run quiet ∙ gives_run u gives)

  same_ending : {l : List (List Tree)} {t : State} → HasAnswered s l t → ending_of (run_of s) ≡ ending_of (run_of t)
  same_ending none_yet = refl
  same_ending (answer {u = u} before quiet gives) = same_ending before ∙ ap ending_of (quiet_run quiet ∙ gives_run u gives)
  same_ending (output {u = u} before quiet gives) = same_ending before ∙ ap ending_of (quiet_run quiet ∙ gives_run u gives)

join_none : (xs : List Tree) → xs ++ [] ≡ xs
join_none [] = refl
join_none (x ∷ xs) = ap (λ ys. x ∷ ys) (join_none xs)

module _ (goal : Tree) (budget : ℕ) (w : World) (definite : IsDefinite w.database.procedures) (query : IsDefiniteQuery goal) (l : List (List Tree)) (s : State)
    (given : HasAnswered (started goal budget w) l s) where
  abbrev run_left : EachAnswer (Proves w.database.procedures) goal (run_of s)
  run_left = still_proved (Proves w.database.procedures) goal (started goal budget w) given (answers_proved goal budget w definite query)

  next_proved : (values : List Tree) (at new : State) → Quiet s at → step at ≡ Gives (Answered values) new
      → Proves w.database.procedures (with_values goal values)
  next_proved values at new quiet gives = (subst (EachAnswer (Proves w.database.procedures) goal) (quiet_run quiet ∙ gives_run at gives) run_left).0

  nothing_written : (bytes : List ℕ) (at new : State) → Quiet s at → step at ≡ Gives (Wrote bytes) new → ⊥
  nothing_written bytes at new quiet gives = subst (EachAnswer (Proves w.database.procedures) goal) (quiet_run quiet ∙ gives_run at gives) run_left

  these_are_all : (at : State) (v : World) → Quiet s at → step at ≡ Ends NoMore v → AreAllAnswers w.database.procedures goal (queries_under goal l)
  these_are_all at v quiet over =
      let from = started goal budget w in
      let none : ending_of (run_of from) ≡ NoMore = same_ending goal from given ∙ ap ending_of (quiet_run quiet ∙ ends_run at over) in
      let all : answers_of goal (run_of from) ≡ queries_under goal l =
      all_answers goal from given ∙ ap (λ r. queries_under goal l ++ answers_of goal r) (quiet_run quiet ∙ ends_run at over)
      ∙ join_none (queries_under goal l) in
      record {
        complete = λ r proved. subst (IsInstanceOfOne _) all (answers_complete goal budget w definite query none r proved);
        leaves = subst (Leaves w.database.procedures (goals_of goal) goal) all (answers_leaves goal budget w definite query none);
      }

pub runs_consequences : RunsAreConsequences
runs_consequences goal budget w definite query l s given =
    (next_proved goal budget w definite query l s given, these_are_all goal budget w definite query l s given)

-- what an engine's answer says, by the states that it stands for
pub concluded : (goal : Tree) (budget : ℕ) (w : World) (l : List (List Tree)) → IsDefinite w.database.procedures → IsDefiniteQuery goal → (s : State)
    → HasAnswered (started goal budget w) l s
    → (p : Pause) (Stands : State → Type 0) (now : Phase) → Pauses s p Stands now → Concludes goal budget w l p Stands
concluded goal budget w l definite query s given (pause.Answer values) Stands now h =
    let c = h.0 in (
      next_proved goal budget w definite query l s given (map term_of values.items) c.at c.new c.quiet c.last,
      record { state = c.new; stands = c.stands; answered = answer given c.quiet c.last },
    )
concluded goal budget w l definite query s given (pause.Output bytes) Stands now h =
    let c = h.0 in nothing_written goal budget w definite query l s given bytes.items c.at c.new c.quiet c.last
concluded goal budget w l definite query s given pause.NoMore Stands now h =
    let f = h.0 in these_are_all goal budget w definite query l s given f.at f.world f.quiet f.last
concluded goal budget w l definite query s given pause.Budget Stands now h = tt
concluded goal budget w l definite query s given (pause.Uncaught ball) Stands now h = tt
concluded goal budget w l definite query s given (pause.Halt status) Stands now h = tt
concluded goal budget w l definite query s given pause.HeapFull Stands now h = tt
concluded goal budget w l definite query s given pause.FramesFull Stands now h = tt
concluded goal budget w l definite query s given pause.NoMemory Stands now h = tt
concluded goal budget w l definite query s given pause.Spent Stands now h = tt

-- a goal that was started has given no answer
pub begun : (goal : Tree) (budget : ℕ) (s : State) (result : Result Unit StartFault) (Stands : State → Type 0) (now : Phase)
    → Starts goal budget s result Stands now
    → IfOk result (λ u. IsBehind goal budget s.world [] Stands)
begun goal budget s (Ok u) Stands now h = record { state = started goal budget s.world; stands = h.0; answered = none_yet }
begun goal budget s (Err e) Stands now h = tt
