use Rattle.std.proofs.Common.{refl, sym, ap, ◌∙◌}
use Rattle.std.proofs.lemmas.List.{drop_all}
use Rattle.std.proofs.lemmas.Option.{slice_get_read}
use Rattle.iso_compile.specs.Emitting.{without_voids}
use Rattle.iso_compile.specs.Expressions.{step_parts}
use Rattle.iso_compile.proofs.VoidLemmas.{step_forgotten}
use Rattle.iso_compile.proofs.expressions.forget_steps.Goals as goal

pub loop-step-preserved : goal.loop-step-preserved
loop-step-preserved c =
    step_forgotten c.args.steps.now c.loop-step.step-index c.step-item.result c.loop-step.met.items _ (slice_get_read c.args.steps.now _ _ _ refl c.loop-step-test.true c.step-item.is) c.forget_step.ensures ∙ c.loop-step.invariant

pub returns : goal.returns
returns c = ap (λ xs. without_voids c.loop-step.met.items (step_parts xs)) (sym (drop_all c.loop-step.step-index c.args.steps.now c.loop-step-test.false)) ∙ c.loop-step.invariant
