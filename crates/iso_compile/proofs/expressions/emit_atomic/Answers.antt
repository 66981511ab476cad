use Rattle.iso_compile.specs.declared.expressions.Step.TheVariants as step
use Rattle.iso_compile.proofs.ExpressionLemmas.{marks_with_step}
use Rattle.iso_compile.proofs.expressions.emit_atomic.Goals as goal

pub returns-in_ok-push-in-Var-clause-marks : goal.returns-in_ok-push-in-Var-clause-marks
returns-in_ok-push-in-Var-clause-marks c =
    marks_with_step c.args.plan.now.places c.args.steps.now.items c.push.new.self.items (step.Value c.in_ok-part-in-Var.part) c.args.met.now.items c.part_in.new.met.items c.in_ok-push-in-Var.ensures.items c.in_ok-part-in-Var.ensures.marks
