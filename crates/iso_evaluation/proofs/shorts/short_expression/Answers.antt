use Rattle.std.proofs.Common.{◌≡◌, suc, ◌+◌, ◌∙◌, to_z, length, rules, get_or, add-one, arith}
use Rattle.std.specs.Prelude.{FitsSigned}
use Rattle.std.specs.Int.{w64}
use Rattle.std.proofs.lemmas.Int.{to_z-of_z}
use Rattle.iso_instructions.specs.declared.instructions.Step.TheVariants as step
use Rattle.iso_evaluation.proofs.ShortLemmas.{both_go, first_goes, operand_there}
use Rattle.iso_evaluation.proofs.shorts.short_expression.Goals as goal

pub loop-operand-init : goal.loop-operand-init
loop-operand-init g c =
    let names = g.S.Store.names c.args.store.now in
    let steps = c.args.steps.now in
    let i = c.args.start in
    let o = c.in-Value.first in
    let z = c.in_ok-value.value in
    let fits : FitsSigned w64 z = search rules in
    let here : step.Value o ≡ get_or steps i (step.Value o) = search rules in
    record {
      goes = λ next s ks zs stand zip.
          rw (to_z-of_z w64 z fits, add-one)
          (first_goes names next s ks steps zip i o zs z (omega arith) here (c.in_ok-value.ensures next s stand));
      within = omega arith;
    }

pub short_operand-requires-in-Some-clause-operand : goal.short_operand-requires-in-Some-clause-operand
short_operand-requires-in-Some-clause-operand g c =
    operand_there (length (g.S.Store.names c.args.store.now)) (length c.args.environment.now) c.args.steps.now c.loop-operand.end
    c.in-Some.operand.now c.in-Some.operation c.requires.steps c.in-Some.ensures

pub loop-operand-preserved : goal.loop-operand-preserved
loop-operand-preserved g c =
    let names = g.S.Store.names c.args.store.now in
    let i = c.loop-operand.end in
    let x = to_z w64 c.loop-operand.value-bits in
    let y = c.in_ok-right.right in
    let z = c.in_ok-value-2.value in
    let second : FitsSigned w64 y = search rules in
    let fits : FitsSigned w64 z = search rules in
    let value = rw (to_z-of_z w64 y second) at c.in_ok-value-2.ensures in
    let two : i + 2 ≡ suc (suc i) = omega arith in
    let inside = c.in-Some.ensures.0 in
    record {
      goes = λ next s ks zs stand zip.
          rw (to_z-of_z w64 z fits, two)
          (c.loop-operand.invariant.goes next s ks zs stand zip
          ∙ both_go names next s ks c.args.steps.now zip i c.in-Some.operand.now c.in-Some.operation zs x y z c.in-Some.ensures
          (c.in_ok-right.ensures next s stand) value);
      within = omega (arith, inside);
    }
