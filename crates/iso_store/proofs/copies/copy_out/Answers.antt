use Rattle.std.proofs.Common.{map, sym, ◌∙◌, arith}
use Rattle.iso_model.specs.Terms.TermOf.{term_of}
use Rattle.iso_model.proofs.OnTerms.BuildingLemmas.{with_steps-more, steps_load-more}
use Rattle.iso_store.specs.Tasks.{step_of}
use Rattle.iso_store.proofs.copies.copy_out.Goals as goal

pub loop-task-smaller : goal.loop-task-smaller
loop-task-smaller g c =
    let p = g.S.Primitives.present c.args.store.now in
    let names = g.S.Primitives.names c.args.store.now in
    let popped = steps_load-more (step_of p names) c.pop.new.self.items c.loop-task.tasks.items c.in-Some.task c.in-Some.ensures.items in
    let less = c.in_ok-do_task.ensures.load in
    omega (arith, popped, less)

pub loop-task-preserved : goal.loop-task-preserved
loop-task-preserved g c =
    let p = g.S.Primitives.present c.args.store.now in
    let names = g.S.Primitives.names c.args.store.now in
    let popped = with_steps-more (step_of p names) c.pop.new.self.items c.loop-task.tasks.items c.in-Some.task c.in-Some.ensures.items (map term_of c.loop-task.copies.items) in
    record {
      tasks = c.in_ok-do_task.ensures.tasks;
      steps = c.in_ok-do_task.ensures.steps ∙ sym popped ∙ c.loop-task.invariant.steps;
    }
