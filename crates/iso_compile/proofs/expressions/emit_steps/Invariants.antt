-- The steps so far and those that are left are those of the expression.
use Rattle.std.proofs.Common.{◌≡◌, ◌++◌, map, length}
use Rattle.iso_model.specs.Terms.TermOf.{term_of}
use Rattle.iso_compile.specs.Expressions.{is_known, steps_of, step_of, StepMarks, tasks_known, tasks_load, tasks_steps}
use Rattle.iso_compile.proofs.expressions.emit_steps.Given as goal

abbrev pub invariant-loop-task : goal.invariant-loop-task
invariant-loop-task l =
    (map step_of l.steps.items ++ tasks_steps l.tasks.items ≡ map step_of l.fn.steps.items ++ steps_of (term_of l.term))
    × (tasks_known l.tasks.items ≡ is_known (term_of l.term))
    × (StepMarks l.plan.places l.fn.steps.items l.fn.met.items → StepMarks l.plan.places l.steps.items l.met.items)
    × (length l.met.items ≡ length l.fn.met.items)

abbrev pub decreases-loop-task : goal.decreases-loop-task
decreases-loop-task l = tasks_load l.tasks.items
