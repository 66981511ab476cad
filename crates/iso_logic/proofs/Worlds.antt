-- A search over definite clauses keeps the world, and no goal halts it.
use Rattle.std.proofs.Common.{◌≡◌, ℕ, zero, suc, List, [], ◌∷◌, Option, Some, None, length, refl, sym, subst}
use Rattle.iso_ops.specs.declared.settings.Unknown.{Unknown}
use Rattle.iso_ops.specs.declared.settings.Unknown.TheVariants as on_unknown
use Rattle.iso_model.specs.Terms.Trees.{Tree}
use Rattle.iso_model.specs.Terms.Substitutions.{apply}
use Rattle.iso_model.specs.Search.Bodies.{Body, Cut, Run, And, Or, If, Choose}
use Rattle.iso_model.specs.Search.Databases.{Clause, Procedures, Key, key_of, clauses_at}
use Rattle.iso_model.specs.Search.BuiltIns.{built_in}
use Rattle.iso_model.specs.Search.Walker.{State, World, Member, Goal, CutTo, Fail, Leave, Raise, Meet, Gather, Left, AsIs, Again, Clauses, Catching, Gathering, Ending, NoMore, Budget, Uncaught, Halted}
use Rattle.iso_model.specs.Search.Walker.{Offered, Groups, Alternative, Answered, Wrote, Outcome, Goes, Gives, Ends}
use Rattle.iso_model.specs.Search.Walker.{charged, paid, with_others, tried, retried}
use Rattle.iso_model.specs.Search.Walker.{backtracked, called, unknown_called, selected, run_goal, run_value, thrown, step_goal, step_list, step, started, asked}
use Rattle.iso_model.specs.Search.Runs.{Trace, Then, Stops, goes, gives, ends}
use Rattle.iso_model.specs.Search.Runs as runs
use Rattle.iso_model.specs.Search.RunLaws.{run_of, run_of_is}
use Rattle.iso_logic.specs.DefiniteClauses.{IsDefinite, AreGoals}
use Rattle.iso_logic.specs.DefiniteQueries.{IsDefiniteQuery}
use Rattle.iso_logic.specs.Answers.{end_world}
use Rattle.iso_logic.specs.AnswerLaws.{RunsKeepTheWorld}
use Rattle.iso_model.proofs.Search.CallLemmas.{clause_keeps}
use Rattle.iso_logic.proofs.GoalLemmas.{key_applied, no_built_in}
use Rattle.iso_logic.proofs.States.{GoodList, TrialAt, Entries, Ready, running, failing, raising, Good, StateLeaves, Steps}
use Rattle.iso_logic.proofs.StepCases.{step_steps}
use Rattle.iso_logic.proofs.Runs.{started_good}

-- no goal ended the run by a halt
abbrev pub NoHalt : Ending → Type 0
NoHalt NoMore = Unit {0}
NoHalt Budget = Unit {0}
NoHalt (Uncaught ball) = Unit {0}
NoHalt (Halted status) = ⊥

-- each world of the run is this one, and no goal halts it
abbrev pub StaysIn : World → Trace → Type 0
StaysIn w (Then e v r) = (v ≡ w) × StaysIn w r
StaysIn w (Stops e v) = (v ≡ w) × NoHalt e

abbrev Keeps : World → Outcome → Type 0
Keeps w (Goes t) = t.world ≡ w
Keeps w (Gives e t) = t.world ≡ w
Keeps w (Ends e v) = (v ≡ w) × NoHalt e

tried_keeps : (call : Tree) (cs : List Clause) (ms : List Member) (s : State) → (tried call cs ms s).world ≡ s.world
tried_keeps call [] ms s = refl
tried_keeps call (c ∷ []) ms s = (clause_keeps call c (length s.stack) ms s).1
tried_keeps call (c ∷ d ∷ ds) ms s = (clause_keeps call c (length s.stack) ms (with_others call (d ∷ ds) ms s)).1

charged_keeps : (w : World) (n : ℕ) (o : Outcome) → Keeps w o → Keeps w (charged n o)
charged_keeps w n (Goes t) h = h
charged_keeps w n (Gives e t) h = h
charged_keeps w n (Ends e v) h = h

paid_keeps : (n : ℕ) (s : State) (o : Outcome) → Keeps s.world o → Keeps s.world (paid n s o)
paid_keeps zero s o h = (refl, tt)
paid_keeps (suc n) s o h = charged_keeps s.world n o h

unknown_keeps : (flag : Unknown) (k : Key) (ms : List Member) (s : State) → (unknown_called flag k ms s).world ≡ s.world
unknown_keeps on_unknown.Error k ms s = refl
unknown_keeps on_unknown.Fail k ms s = refl

called_keeps : (o : Option (List Clause)) (k : Key) (t : Tree) (ms : List Member) (s : State) → (called o k t ms s).world ≡ s.world
called_keeps None k t ms s = unknown_keeps s.world.flags.unknown k ms s
called_keeps (Some cs) k t ms s = tried_keeps t cs ms s

selected_keeps : (k : Key) (t : Tree) (ms : List Member) (s : State) → key_of t ≡ Some k → built_in k ≡ None → Keeps s.world (run_value t ms s)
selected_keeps k t ms s named user =
    subst (λ o. Keeps s.world (run_goal o t ms s)) (sym named)
    (subst (λ o. Keeps s.world (selected o k t ms s)) (sym user) (called_keeps (clauses_at s.world.database.procedures k) k t ms s))

goal_keeps : (n : ℕ) (b : Body) (mark : ℕ) (ms : List Member) (s : State) → AreGoals n b → Keeps s.world (step_goal b mark ms s)
goal_keeps n (Run t) mark ms s g =
    paid_keeps s.steps s (run_value (apply s.subst t) ms s)
    (selected_keeps g.0.0 (apply s.subst t) ms s (key_applied s.subst t g.0.3 g.0.1) (no_built_in g.0.0 g.0.2))
goal_keeps n (And a b) mark ms s g = refl
goal_keeps n Cut mark ms s g = absurd g
goal_keeps n (Or a b) mark ms s g = absurd g
goal_keeps n (If a b) mark ms s g = absurd g
goal_keeps n (Choose a b c) mark ms s g = absurd g

running_keeps : (n : ℕ) (ms : List Member) (s : State) → GoodList n ms → Keeps s.world (step_list ms s)
running_keeps n [] s g = refl
running_keeps n (Goal b m ∷ ms) s g = goal_keeps n b m ms s g.0
running_keeps n (CutTo x ∷ ms) s g = absurd g
running_keeps n (Fail ∷ ms) s g = absurd g
running_keeps n (Leave x ∷ ms) s g = absurd g
running_keeps n (Raise ball ∷ ms) s g = absurd g
running_keeps n (Meet ball catcher recovery ∷ ms) s g = absurd g
running_keeps n (Gather x template ∷ ms) s g = absurd g

thrown_keeps : (n : ℕ) (ball : Tree) (ms : List Member) (s : State) → GoodList n ms → Keeps s.world (thrown ball ms s)
thrown_keeps n ball [] s g = (refl, tt)
thrown_keeps n ball (Goal b m ∷ ms) s g = thrown_keeps n ball ms s g.1
thrown_keeps n ball (CutTo x ∷ ms) s g = absurd g
thrown_keeps n ball (Fail ∷ ms) s g = absurd g
thrown_keeps n ball (Leave x ∷ ms) s g = absurd g
thrown_keeps n ball (Raise other ∷ ms) s g = absurd g
thrown_keeps n ball (Meet other catcher recovery ∷ ms) s g = absurd g
thrown_keeps n ball (Gather x template ∷ ms) s g = absurd g

module _ (ps : Procedures) (q : Tree) where
  retried_keeps : (left : Left) (s : State) → TrialAt ps q s.next s.subst s.list left → Keeps s.world (retried left s)
  retried_keeps (Clauses call cs) s trial = tried_keeps call cs s.list s
  retried_keeps AsIs s trial = absurd trial
  retried_keeps Again s trial = absurd trial
  retried_keeps (Catching catcher recovery) s trial = absurd trial
  retried_keeps (Gathering collecting copies count) s trial = absurd trial
  retried_keeps (Offered left rights) s trial = absurd trial
  retried_keeps (Groups by groups) s trial = absurd trial

  backtracked_keeps : (stack : List Alternative) (s : State) → Entries ps q stack → Keeps s.world (backtracked stack s)
  backtracked_keeps [] s entries = (refl, tt)
  backtracked_keeps (a ∷ below) s entries =
      retried_keeps a.left (record s { list = a.list; subst = a.subst; next = a.next; built = a.built; stack = below }) entries.0

  list_keeps : (ms : List Member) (s : State) → Entries ps q s.stack → Ready ps q s.next s.subst ms → Keeps s.world (step_list ms s)
  list_keeps ms s entries (running runs) = running_keeps s.next ms s runs.goals
  list_keeps (Fail ∷ ms) s entries failing = backtracked_keeps s.stack s entries
  list_keeps (Raise ball ∷ ms) s entries (raising good) = thrown_keeps s.next ball ms s good

  step_keeps : (s : State) → Good ps q s → Keeps s.world (step s)
  unfolding step
  step_keeps s good = list_keeps s.list s good.entries good.list

  module _ (definite : IsDefinite ps) where
    run_stays : {s : State} {r : Trace} → runs.Run s r → Good ps q s → StaysIn s.world r
    run_stays (goes {s = s} {t = t} {r = r} h k) good =
        let now = subst (Steps ps q (StateLeaves ps q s)) h (step_steps ps q definite s good) in
        subst (λ v. StaysIn v r) (subst (Keeps s.world) h (step_keeps s good)) (run_stays k now.0)
    run_stays (gives {s = s} {t = t} {e = Answered vs} {r = r} h k) good =
        let now = subst (Steps ps q (StateLeaves ps q s)) h (step_steps ps q definite s good) in
        let same : t.world ≡ s.world = subst (Keeps s.world) h (step_keeps s good) in
        (same, subst (λ v. StaysIn v r) same (run_stays k now.0))
    run_stays (gives {s = s} {t = t} {e = Wrote bytes} h k) good = absurd (subst (Steps ps q (StateLeaves ps q s)) h (step_steps ps q definite s good))
    run_stays (ends {s = s} {e = e} {w = w} h) good = subst (Keeps s.world) h (step_keeps s good)

-- such a run stays in the world that it began in
pub runs_stay : (goal : Tree) (budget : ℕ) (w : World) → IsDefinite w.database.procedures → IsDefiniteQuery goal → StaysIn (asked w) (run_of (started goal budget w))
runs_stay goal budget w definite query =
    run_stays w.database.procedures goal definite (run_of_is (started goal budget w)) (started_good goal budget w query)

end_of_stay : (w : World) (r : Trace) → StaysIn w r → end_world r ≡ w
end_of_stay w (Then e v r) h = end_of_stay w r h.1
end_of_stay w (Stops e v) h = h.0

-- so it keeps the world
pub runs_keep_world : RunsKeepTheWorld
runs_keep_world goal budget w definite query = end_of_stay (asked w) (run_of (started goal budget w)) (runs_stay goal budget w definite query)
