use Rattle.std.proofs.Common.{◌≡◌, Ok, ◌∷◌, [], ap, sym, subst, ◌∙◌, reverse, length, rules}
use Rattle.std.specs.Prelude.{FitsSigned}
use Rattle.std.specs.Int.{w128}
use Rattle.std.proofs.lemmas.Int.{to_z-of_z}
use Rattle.iso_compile.specs.Expressions.{done, on_value}
use Rattle.iso_instructions.specs.Steps.{IsStep, IsStepThere}
use Rattle.iso_evaluation.specs.Running.{Leaves, missed}
use Rattle.iso_evaluation.proofs.StepLemmas.{value_step, one_step, two_step, unknown_step, pushed_left, fault_can, refused_can, missed_can}
use Rattle.iso_evaluation.proofs.steps.run_step.Goals as goal

pub returns-in_err-push-in-Value-clause-error : goal.returns-in_err-push-in-Value-clause-error
returns-in_err-push-in-Value-clause-error g c =
    refused_can (g.S.Store.names c.args.store.now) c.from_residual-in_err-push-in-Value.result c.from_residual-in_err-push-in-Value.ensures.1

pub returns-in_ok-push-in-Value-clause-values : goal.returns-in_ok-push-in-Value-clause-values
returns-in_ok-push-in-Value-clause-values g c next s k stand is =
    let names = g.S.Store.names c.args.store.now in
    let z = c.in_ok-value_of-in-Value.field-0 in
    let old = reverse c.args.values.now.items in
    let fits : FitsSigned w128 z = search rules in
    let pushed = rw (to_z-of_z w128 z fits) at c.in_ok-push-in-Value.ensures.items in
    let here = subst (IsStep names k) c.in-Value.is is in
    pushed_left names tt c.args.values.now.items c.push.new.self.items z (done next s (k ∷ []) old) pushed
    (value_step names next s k c.in-Value.operand old here ∙ ap (λ v. on_value v (λ y. Ok (y ∷ old))) (c.in_ok-value_of-in-Value.ensures.value next s stand))

pub returns-in-One-clause-values : goal.returns-in-One-clause-values
returns-in-One-clause-values g c next s k stand is =
    let names = g.S.Store.names c.args.store.now in
    let here = subst (IsStep names k) c.in-One.is is in
    subst (Leaves names c.apply_one.result c.apply_one.new.values.items) (sym (one_step names next s k c.in-One.operation (reverse c.args.values.now.items) here)) (c.apply_one.ensures names)

pub returns-in-One-clause-error : goal.returns-in-One-clause-error
returns-in-One-clause-error g c =
    let names = g.S.Store.names c.args.store.now in
    fault_can names c.apply_one.result c.apply_one.new.values.items _ (c.apply_one.ensures names)

pub returns-in-Two-clause-values : goal.returns-in-Two-clause-values
returns-in-Two-clause-values g c next s k stand is =
    let names = g.S.Store.names c.args.store.now in
    let here = subst (IsStep names k) c.in-Two.is is in
    subst (Leaves names c.apply_two.result c.apply_two.new.values.items) (sym (two_step names next s k c.in-Two.operation (reverse c.args.values.now.items) here)) (c.apply_two.ensures names)

pub returns-in-Two-clause-error : goal.returns-in-Two-clause-error
returns-in-Two-clause-error g c =
    let names = g.S.Store.names c.args.store.now in
    fault_can names c.apply_two.result c.apply_two.new.values.items _ (c.apply_two.ensures names)

pub returns-in-Unknown-clause-values : goal.returns-in-Unknown-clause-values
returns-in-Unknown-clause-values g c next s k stand is =
    let names = g.S.Store.names c.args.store.now in
    let here = subst (IsStep names k) c.in-Unknown.is is in
    let there = subst (IsStepThere (length names) (length c.args.environment.now)) c.in-Unknown.is c.requires.step in
    unknown_step names next s k c.in-Unknown.name c.in-Unknown.count c.args.values.now.items c.no_value.result (subst (λ zs. c.no_value.result ≡ missed c.in-Unknown.name c.in-Unknown.count zs) c.deref.ensures.value c.no_value.ensures) there.0 here

pub returns-in-Unknown-clause-error : goal.returns-in-Unknown-clause-error
returns-in-Unknown-clause-error g c =
    let names = g.S.Store.names c.args.store.now in
    let there = subst (IsStepThere (length names) (length c.args.environment.now)) c.in-Unknown.is c.requires.step in
    missed_can names c.in-Unknown.name c.in-Unknown.count c.deref.result.now c.no_value.result c.no_value.ensures there.0 there.1
