use Rattle.std.proofs.Common.{map, sym, ◌∙◌, arith}
use Rattle.iso_model.specs.Terms.TermOf.{term_of}
use Rattle.iso_model.proofs.OnTerms.BuildingLemmas.{with_steps-more, steps_load-more}
use Rattle.iso_prep.specs.Conversions.{step_of}
use Rattle.iso_prep.proofs.copies.do_all.Goals as goal

pub loop-task-smaller : goal.loop-task-smaller
loop-task-smaller c =
    let popped = steps_load-more (step_of c.args.variables.now) c.pop.new.self.items c.loop-task.tasks.items c.in-Some.task c.in-Some.ensures.items in
    let less = c.in_ok-do_task.ensures.load in
    omega arith

pub loop-task-preserved : goal.loop-task-preserved
loop-task-preserved c =
    let popped = with_steps-more (step_of c.args.variables.now) c.pop.new.self.items c.loop-task.tasks.items c.in-Some.task c.in-Some.ensures.items (map term_of c.loop-task.copies.items) in
    c.in_ok-do_task.ensures.steps ∙ sym popped ∙ c.loop-task.invariant
