use Rattle.std.proofs.Common.{◌≤◌, suc, [], ◌∷◌, Ok, Err, ap, sym, subst, ◌∙◌, refl, reverse, drop, length, add-one, arith}
use Rattle.iso_compile.specs.Expressions.{done}
use Rattle.iso_instructions.specs.Steps.{IsStep}
use Rattle.iso_evaluation.specs.Running.{Leaves}
use Rattle.iso_evaluation.proofs.StepLemmas.{and_then, step_first, all_left, fault_ends, fault_stays, zip_at, zip_end}
use Rattle.iso_evaluation.proofs.steps.run_steps.Goals as goal

pub returns-in_err-run_step-clause-values : goal.returns-in_err-run_step-clause-values
returns-in_err-run_step-clause-values g c next s ks stand zip =
    let names = g.S.Store.names c.args.store.now in
    let i = c.loop-step.step-index in
    let values = reverse c.loop-step.values.items in
    let new = c.run_step.new.values.items in
    let at = zip_at (IsStep names) ks c.args.steps.now i c.step-item.result zip c.loop-step-test.true c.step-item.is in
    let whole = c.loop-step.invariant next s ks stand zip ∙ ap (λ js. done next s js values) at.1 ∙ step_first next s at.0 (drop (suc i) ks) values in
    let e = c.in_err-run_step.field-0.0 in
    let ends = fault_ends names e new new (done next s (at.0 ∷ []) values) (done next s (drop (suc i) ks)) (c.in_err-run_step.ensures.values next s at.0 stand at.2) in
    fault_stays names c.from_residual.result e new (done next s ks (reverse c.args.values.now.items)) c.from_residual.ensures.1 (subst (Leaves names (Err e) new) (sym whole) ends)

pub loop-step-preserved : goal.loop-step-preserved
loop-step-preserved g c next s ks stand zip =
    let names = g.S.Store.names c.args.store.now in
    let i = c.loop-step.step-index in
    let values = reverse c.loop-step.values.items in
    let at = zip_at (IsStep names) ks c.args.steps.now i c.step-item.result zip c.loop-step-test.true c.step-item.is in
    let whole = c.loop-step.invariant next s ks stand zip ∙ ap (λ js. done next s js values) at.1 ∙ step_first next s at.0 (drop (suc i) ks) values in
    let left = all_left names c.in_ok-run_step.field-0 c.run_step.new.values.items (done next s (at.0 ∷ []) values) (c.in_ok-run_step.ensures.values next s at.0 stand at.2) in
    rw add-one (whole ∙ ap (λ o. and_then o (done next s (drop (suc i) ks))) left)

pub returns-clause-values : goal.returns-clause-values
returns-clause-values g c next s ks stand zip =
    let names = g.S.Store.names c.args.store.now in
    let past : length c.args.steps.now ≤ c.loop-step.step-index = omega arith in
    let all = c.loop-step.invariant next s ks stand zip ∙ ap (λ js. done next s js (reverse c.loop-step.values.items)) (zip_end (IsStep names) ks c.args.steps.now c.loop-step.step-index zip past) in
    subst (Leaves names (Ok tt) c.loop-step.values.items) (sym all) refl
