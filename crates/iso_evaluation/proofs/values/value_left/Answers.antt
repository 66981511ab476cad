use Rattle.std.proofs.Common.{◌≡◌, ◌∷◌, [], Ok, length, reverse, ap, subst, ◌∙◌, arith, rules}
use Rattle.std.specs.List.{AllZip}
use Rattle.std.specs.Prelude.{FitsSigned}
use Rattle.std.specs.Int.{w128}
use Rattle.std.proofs.lemmas.Int.{to_z-of_z}
use Rattle.iso_arith.specs.Operations.{does_binary}
use Rattle.iso_compile.specs.Expressions.{done, on_value}
use Rattle.iso_instructions.specs.Steps.{IsStep}
use Rattle.iso_evaluation.specs.Running.{Leaves, on_both, operand_value}
use Rattle.iso_evaluation.proofs.GoalLemmas.{alone}
use Rattle.iso_evaluation.proofs.ValueLemmas.{not_one_left, one_fails, one_left, one_stays, operation_done}
use Rattle.iso_evaluation.proofs.values.value_left.Goals as goal

pub returns-in_err-value-clause-leaves : goal.returns-in_err-value-clause-leaves
returns-in_err-value-clause-leaves g c next s ks stand zip =
    let names = g.S.Store.names c.args.store.now in
    let three = subst (λ js. AllZip (IsStep names) ks js) c.in-Some.ensures zip in
    let l = c.in-Some.left.now in
    let r = c.in-Some.right.now in
    let e = c.in_err-value.field-0.0 in
    one_stays names (done next s ks []) c.from_residual.result e c.from_residual.ensures.1
    (one_fails names (done next s ks []) e
    (on_both (operand_value names next s l) (operand_value names next s r) (does_binary c.in-Some.operation))
    (operation_done names next s ks l r c.in-Some.operation three) (c.in_err-value.ensures.value next s stand))

pub returns-in-Some-clause-leaves : goal.returns-in-Some-clause-leaves
returns-in-Some-clause-leaves g c next s ks stand zip =
    let names = g.S.Store.names c.args.store.now in
    let three = subst (λ js. AllZip (IsStep names) ks js) c.in-Some.ensures zip in
    let z = c.in_ok-value.value in
    let fits : FitsSigned w128 z = search rules in
    rw (to_z-of_z w128 z fits) (operation_done names next s ks c.in-Some.left.now c.in-Some.right.now c.in-Some.operation three
    ∙ ap (λ v. on_value v (λ y. Ok (y ∷ []))) (c.in_ok-value.ensures.value next s stand))

pub returns-then-len-ne1-clause-leaves : goal.returns-then-len-ne1-clause-leaves
returns-then-len-ne1-clause-leaves g c next s ks stand zip =
    let names = g.S.Store.names c.args.store.now in
    let values = c.run_steps.new.values.items in
    let u = c.in_ok-run_steps.field-0 in
    let left = subst (λ zs. Leaves names (Ok u) values (done next s ks (reverse zs))) c.clear.ensures.items (c.in_ok-run_steps.ensures.values next s ks stand zip) in
    not_one_left names (done next s ks []) u values left (λ is. c.if-len-ne1.true (omega (arith, c.len.ensures, is)))

pub returns-clause-leaves : goal.returns-clause-leaves
returns-clause-leaves g c next s ks stand zip =
    let names = g.S.Store.names c.args.store.now in
    let values = c.run_steps.new.values.items in
    let u = c.in_ok-run_steps.field-0 in
    let left = subst (λ zs. Leaves names (Ok u) values (done next s ks (reverse zs))) c.clear.ensures.items (c.in_ok-run_steps.ensures.values next s ks stand zip) in
    let z = c.index.result.now in
    let many : length values ≡ 1 = omega (arith, c.len.ensures, c.if-len-ne1.false) in
    let fits : FitsSigned w128 z = search rules in
    rw (to_z-of_z w128 z fits) (one_left names (done next s ks []) u values z left (alone values z many c.index.ensures))
