use Rattle.iso_compile.specs.declared.expressions.Step.TheVariants as step
use Rattle.iso_compile.proofs.ExpressionLemmas.{marks_with_step}
use Rattle.iso_compile.proofs.MarkLemmas.{marks_none}
use Rattle.iso_compile.proofs.expressions.do_task.Goals as goal

pub returns-in_ok-push-in-One-clause-marks : goal.returns-in_ok-push-in-One-clause-marks
returns-in_ok-push-in-One-clause-marks c =
    let places = c.args.plan.now.places in
    let list = c.args.met.now.items in
    marks_with_step places c.args.steps.now.items c.push.new.self.items (step.One c.in_ok-clone-in-One.field-0) list list c.in_ok-push-in-One.ensures.items (marks_none places list)

pub returns-in_ok-push-in-Two-clause-marks : goal.returns-in_ok-push-in-Two-clause-marks
returns-in_ok-push-in-Two-clause-marks c =
    let places = c.args.plan.now.places in
    let list = c.args.met.now.items in
    marks_with_step places c.args.steps.now.items c.push-in-Two.new.self.items (step.Two c.in_ok-clone-in-Two.field-0) list list c.in_ok-push-in-Two.ensures.items (marks_none places list)
