use Rattle.std.proofs.Common.{refl, sym, ap, ◌∙◌}
use Rattle.std.proofs.lemmas.List.{drop_all}
use Rattle.std.proofs.lemmas.Option.{slice_get_read}
use Rattle.iso_compile.specs.Births.{with_parts}
use Rattle.iso_compile.specs.Expressions.{step_parts}
use Rattle.iso_compile.proofs.BirthLemmas.{step_noted}
use Rattle.iso_compile.proofs.births.note_steps.Goals as goal

pub loop-step-preserved : goal.loop-step-preserved
loop-step-preserved c =
    step_noted c.args.address c.loop-step.step-index c.loop-step.spans.items _ c.args.steps.now c.step-item.result (slice_get_read c.args.steps.now _ _ _ refl c.loop-step-test.true c.step-item.is) c.note_step.ensures ∙ c.loop-step.invariant

pub returns : goal.returns
returns c = ap (λ xs. with_parts c.args.address (step_parts xs) c.loop-step.spans.items) (sym (drop_all c.loop-step.step-index c.args.steps.now c.loop-step-test.false)) ∙ c.loop-step.invariant
