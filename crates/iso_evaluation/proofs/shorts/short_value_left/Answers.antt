use Rattle.std.proofs.Common.{subst}
use Rattle.std.specs.List.{AllZip}
use Rattle.iso_instructions.specs.Steps.{IsStep}
use Rattle.iso_evaluation.proofs.ValueLemmas.{operation_leaves}
use Rattle.iso_evaluation.proofs.shorts.short_value_left.Goals as goal

pub returns-in-Some : goal.returns-in-Some
returns-in-Some g c next s ks stand zip =
    let names = g.S.Store.names c.args.store.now in
    let three = subst (λ js. AllZip (IsStep names) ks js) c.in-Some.ensures zip in
    operation_leaves names next s ks c.in-Some.left.now c.in-Some.right.now c.in-Some.operation three c.short_both.result (c.short_both.ensures next s stand)
