use Rattle.std.proofs.Common.{◌∙◌}
use Rattle.iso_store_core.proofs.RetainLemmas.{retains_on}
use Rattle.iso_code.proofs.LoadLemmas.{zip_more}
use Rattle.iso_bodies.specs.Steps.{IsLoadedStep}
use Rattle.iso_bodies.proofs.KeptLemmas.{step_kept}
use Rattle.iso_bodies.proofs.steps.load_steps.Goals as goal

pub loop-step-preserved : goal.loop-step-preserved
loop-step-preserved g c =
    let before = c.loop-step.invariant in
    let old = g.S.Store.names c.loop-step.store in
    let new = g.S.Store.names c.load_step.new.store in
    rw c.in_ok-push.ensures.items (record {
      loaded = zip_more (IsLoadedStep old) (IsLoadedStep new) c.args.steps.now c.loop-step.loaded.items c.loop-step.step-index c.step-item.result c.in_ok-load_step.field-0
          (step_kept old new c.load_step.ensures.rest.names) c.loop-step-test.true c.step-item.is before.loaded c.in_ok-load_step.ensures.loaded;
      present = c.load_step.ensures.present ∙ before.present;
      rest = retains_on before.rest c.load_step.ensures.rest;
    })

pub returns-in_err-push-clause-rest : goal.returns-in_err-push-clause-rest
returns-in_err-push-clause-rest g c = retains_on c.loop-step.invariant.rest c.load_step.ensures.rest
