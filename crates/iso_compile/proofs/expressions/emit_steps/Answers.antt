use Rattle.std.proofs.Common.{◌∙◌, ◌++◌, map, sym, ap, arith}
use Rattle.iso_compile.specs.Expressions.{step_of}
use Rattle.iso_compile.proofs.ExpressionLemmas.{steps_more, known_more, load_more, none_known_behind}
use Rattle.iso_compile.proofs.expressions.emit_steps.Goals as goal

pub returns-then-not-branch-clause-known : goal.returns-then-not-branch-clause-known
returns-then-not-branch-clause-known c =
    none_known_behind c.pop.new.self.items c.loop-task.tasks.items c.in-Some.task _ c.in-Some.ensures.items (c.in_ok-do_task.ensures.unknown c.if-not-branch.true) c.loop-task.invariant.1

pub loop-task-smaller : goal.loop-task-smaller
loop-task-smaller c =
    let whole = load_more c.pop.new.self.items c.loop-task.tasks.items c.in-Some.task c.in-Some.ensures.items in
    let emits = c.in_ok-do_task.ensures.known c.if-not-branch.false in
    let less = emits.load in
    omega (arith, whole, less)

pub loop-task-preserved : goal.loop-task-preserved
loop-task-preserved c =
    let before = c.loop-task.invariant in
    let emits = c.in_ok-do_task.ensures.known c.if-not-branch.false in
    let more = c.in-Some.ensures.items in (
      emits.steps ∙ ap (λ ks. map step_of c.loop-task.steps.items ++ ks) (sym (steps_more c.pop.new.self.items c.loop-task.tasks.items c.in-Some.task more)) ∙ before.0,
      emits.known ∙ sym (known_more c.pop.new.self.items c.loop-task.tasks.items c.in-Some.task more) ∙ before.1,
      (λ h. c.in_ok-do_task.ensures.marks (before.2 h)),
      c.do_task.ensures.many ∙ before.3,
    )
