-- What is left to do makes of the copies what all of it made of the first ones.
use Rattle.std.proofs.Common.{◌≡◌, map}
use Rattle.iso_model.specs.Terms.TermOf.{term_of}
use Rattle.iso_model.specs.Terms.Building.{with_steps, steps_load}
use Rattle.iso_prep.specs.Conversions.{step_of}
use Rattle.iso_prep.proofs.copies.do_all.Given as goal

abbrev pub invariant-loop-task : goal.invariant-loop-task
invariant-loop-task l = with_steps (map (step_of l.variables) l.tasks.items) (map term_of l.copies.items) ≡ with_steps (map (step_of l.variables) l.initial.tasks.items) (map term_of l.fn.copies.items)

abbrev pub decreases-loop-task : goal.decreases-loop-task
decreases-loop-task l = steps_load (map (step_of l.variables) l.tasks.items)
