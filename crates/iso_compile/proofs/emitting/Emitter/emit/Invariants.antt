-- The blocks so far and those left are all blocks.
use Rattle.std.proofs.Common.{◌≡◌, length}
use Rattle.iso_model.specs.Terms.TermOf.{row_of}
use Rattle.iso_compile.specs.Tasks.{Goes, stage_of, with_row, with_tasks, tasks_load}
use Rattle.iso_compile.proofs.emitting.Emitter.emit.Given as goal

abbrev pub invariant-loop-task : goal.invariant-loop-task
invariant-loop-task l =
    (with_tasks l.tasks.items (stage_of l.self) ≡ with_row l.register (row_of l.terms) (stage_of l.fn.self))
    × Goes l.plan.places l.fn.self l.self
    × (length l.self.met.items ≡ length l.fn.self.met.items)

abbrev pub decreases-loop-task : goal.decreases-loop-task
decreases-loop-task l = tasks_load l.tasks.items
