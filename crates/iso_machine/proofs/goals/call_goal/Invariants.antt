-- The goal at the place comes first of the engine with its frame: the first goal, or one to which calls went on.
use Rattle.iso_machine.specs.GoalPlaces.{IsNextGoal}
use Rattle.iso_machine.proofs.goals.call_goal.Given as goal

abbrev pub invariant-loop-put : goal.invariant-loop-put
invariant-loop-put g l = IsNextGoal g.S.Store g.S.Cells.atom_word l.fn.search l.search l.place l.went

abbrev pub decreases-loop-put : goal.decreases-loop-put
decreases-loop-put g l = l.search.steps
