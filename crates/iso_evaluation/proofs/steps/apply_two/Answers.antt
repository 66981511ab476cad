use Rattle.std.proofs.Common.{Ok, ◌∷◌, ap, sym, ◌∙◌, refl, reverse, rules}
use Rattle.std.specs.Prelude.{FitsSigned}
use Rattle.std.specs.Int.{w128}
use Rattle.std.proofs.lemmas.Int.{to_z-of_z}
use Rattle.iso_arith.specs.declared.faults.EvalFault.TheVariants.{Refused}
use Rattle.iso_arith.specs.Operations.{does_binary}
use Rattle.iso_compile.specs.Expressions.{on_value}
use Rattle.iso_evaluation.specs.Running.{with_last_two}
use Rattle.iso_evaluation.proofs.StepLemmas.{two_taken, pushed_left, error_left_by, fault_stays}
use Rattle.iso_evaluation.proofs.steps.apply_two.Goals as goal

pub returns-in_err-of : goal.returns-in_err-of
returns-in_err-of c names =
    let rest = c.pop-2.new.self.items in
    let taken = two_taken c.args.values.now.items c.pop.new.self.items rest c.in-Some-pop.left c.in-Some.right c.in-Some.ensures.items c.in-Some-pop.ensures.items in
    let left : FitsSigned w128 c.in-Some-pop.left = search rules in
    let right : FitsSigned w128 c.in-Some.right = search rules in
    let fails = rw (to_z-of_z w128 c.in-Some-pop.left left, to_z-of_z w128 c.in-Some.right right) at c.in_err-of.ensures in
    let refusal = c.in_err-of.field-0.0 in
    fault_stays names c.from_residual.result (Refused refusal) rest (with_last_two (does_binary c.args.operation) (reverse c.args.values.now.items)) c.from_residual.ensures.1
    (error_left_by names rest (Refused refusal) _ _ (ap (with_last_two (does_binary c.args.operation)) taken ∙ ap (λ v. on_value v (λ z. Ok (z ∷ reverse rest))) (sym fails)) refl)

pub returns : goal.returns
returns c names =
    let rest = c.pop-2.new.self.items in
    let taken = two_taken c.args.values.now.items c.pop.new.self.items rest c.in-Some-pop.left c.in-Some.right c.in-Some.ensures.items c.in-Some-pop.ensures.items in
    let left : FitsSigned w128 c.in-Some-pop.left = search rules in
    let right : FitsSigned w128 c.in-Some.right = search rules in
    let made : FitsSigned w128 c.in_ok-of.field-0 = search rules in
    let gives = rw (to_z-of_z w128 c.in-Some-pop.left left, to_z-of_z w128 c.in-Some.right right) at c.in_ok-of.ensures in
    let pushed = rw (to_z-of_z w128 c.in_ok-of.field-0 made) at c.in_ok-push.ensures.items in
    pushed_left names tt rest c.push.new.self.items c.in_ok-of.field-0 (with_last_two (does_binary c.args.operation) (reverse c.args.values.now.items)) pushed
    (ap (with_last_two (does_binary c.args.operation)) taken ∙ ap (λ v. on_value v (λ z. Ok (z ∷ reverse rest))) (sym gives))
