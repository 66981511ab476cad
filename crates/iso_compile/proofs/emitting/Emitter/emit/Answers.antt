use Rattle.std.proofs.Common.{arith, sym, ◌∙◌}
use Rattle.iso_compile.specs.Tasks.{stage_of}
use Rattle.iso_compile.proofs.EmitLemmas.{left_more, load_more}
use Rattle.iso_compile.proofs.emitting.Emitter.emit.Goals as goal

pub loop-task-smaller : goal.loop-task-smaller
loop-task-smaller c =
    let whole = load_more c.pop.new.self.items c.loop-task.tasks.items c.in-Some.task c.in-Some.ensures.items in
    let less = c.in_ok-step.ensures.load in
    omega (arith, whole, less)

pub loop-task-preserved : goal.loop-task-preserved
loop-task-preserved c =
    let before = c.loop-task.invariant in
    let popped = left_more c.pop.new.self.items c.loop-task.tasks.items c.in-Some.task (stage_of c.loop-task.self) c.in-Some.ensures.items in
    (c.in_ok-step.ensures.made ∙ sym popped ∙ before.0, λ met parts h. c.in_ok-step.ensures.marks met parts (before.1 met parts h), c.step.ensures.many ∙ before.2)
