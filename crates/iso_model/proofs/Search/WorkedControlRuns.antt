-- The worked runs of control constructs, by computing their steps.
use Rattle.std.proofs.Common.{◌≡◌, ℕ, zero, suc, Option, Some, None, option_map, refl, subst}
use Rattle.iso_model.specs.Search.Walker.{State, Event, Outcome, Goes, Gives, Ends, step}
use Rattle.iso_model.specs.Search.Runs.{Trace, Then, Stops, Run, goes, gives, ends}
use Rattle.iso_model.specs.Worked.Control.{CutTakesAlternativesAway, CutIsLocalToCall, CutActsThroughConjunctions, CutInThenAndCondition, ConditionsDecideOnce, NegationTakesAStep, OnceIsOnce, RepeatTakesSteps, GoalsAreChecked, ArgumentsAreAdded, CatchRunsItsGoal, LeftCatchesDontCatch, FindallChecks, HaltEnds}

abbrev pub walk_on : (State → Option Trace) → Outcome → Option Trace
walk_on on (Goes t) = on t
walk_on on (Gives e t) = option_map (Then e t.world) (on t)
walk_on on (Ends e w) = Some (Stops e w)

-- the run, where it has at most so many steps
unfoldable pub walked : ℕ → State → Option Trace
walked zero s = None
walked (suc n) s = walk_on (walked n) (step s)

event_first : (s t : State) (e : Event) (o : Option Trace) (r : Trace) → step s ≡ Gives e t → ((q : Trace) → o ≡ Some q → Run t q) → option_map (Then e t.world) o ≡ Some r → Run s r
event_first s t e (Some q) r is behind h =
    let same : Then e t.world q ≡ r = cc in
    subst (λ (x : Trace). Run s x) same (gives is (behind q refl))
event_first s t e None r is behind h = absurd (cc)

after : (s : State) (on : State → Option Trace) (o : Outcome) (r : Trace) → step s ≡ o → ((t : State) (q : Trace) → on t ≡ Some q → Run t q) → walk_on on o ≡ Some r → Run s r
after s on (Goes t) r is behind h = goes is (behind t r h)
after s on (Gives e t) r is behind h = event_first s t e (on t) r is (λ q k. behind t q k) h
after s on (Ends e w) r is behind h =
    let same : Stops e w ≡ r = cc in
    subst (λ (x : Trace). Run s x) same (ends is)

pub run_walked : (n : ℕ) (s : State) (r : Trace) → walked n s ≡ Some r → Run s r
unfolding walked
run_walked zero s r h = absurd (cc)
run_walked (suc n) s r h = after s (walked n) (step s) r refl (run_walked n) h

pub cut_run : CutTakesAlternativesAway
unfolding step walked
cut_run = (run_walked 20 _ _ refl, run_walked 20 _ _ refl)

pub local_run : CutIsLocalToCall
unfolding step walked
local_run = run_walked 20 _ _ refl

pub through_run : CutActsThroughConjunctions
unfolding step walked
through_run = run_walked 20 _ _ refl

pub then_run : CutInThenAndCondition
unfolding step walked
then_run = (run_walked 30 _ _ refl, run_walked 30 _ _ refl)

pub condition_run : ConditionsDecideOnce
unfolding step walked
condition_run = (run_walked 30 _ _ refl, run_walked 20 _ _ refl, run_walked 20 _ _ refl)

pub negation_run : NegationTakesAStep
unfolding step walked
negation_run = (run_walked 20 _ _ refl, run_walked 20 _ _ refl, run_walked 20 _ _ refl)

pub once_run : OnceIsOnce
unfolding step walked
once_run = run_walked 20 _ _ refl

pub repeat_run : RepeatTakesSteps
unfolding step walked
repeat_run = run_walked 20 _ _ refl

pub checked_run : GoalsAreChecked
unfolding step walked
checked_run = (run_walked 20 _ _ refl, run_walked 20 _ _ refl, run_walked 20 _ _ refl)

pub added_run : ArgumentsAreAdded
unfolding step walked
added_run = run_walked 20 _ _ refl

pub catch_run : CatchRunsItsGoal
unfolding step walked
catch_run = (run_walked 30 _ _ refl, run_walked 30 _ _ refl)

pub left_run : LeftCatchesDontCatch
unfolding step walked
left_run = (run_walked 20 _ _ refl, run_walked 20 _ _ refl)

pub findall_run : FindallChecks
unfolding step walked
findall_run = (run_walked 20 _ _ refl, run_walked 20 _ _ refl, run_walked 20 _ _ refl, run_walked 20 _ _ refl, run_walked 20 _ _ refl)

pub halt_run : HaltEnds
unfolding step walked
halt_run = (run_walked 20 _ _ refl, run_walked 20 _ _ refl, run_walked 20 _ _ refl)
