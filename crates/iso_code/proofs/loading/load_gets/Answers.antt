use Rattle.std.proofs.Common.{◌∙◌, refl}
use Rattle.iso_store_core.proofs.RetainLemmas.{retains_on}
use Rattle.iso_code.specs.declared.operands.Get.{Get}
use Rattle.iso_code.specs.Loading.{IsLoadedGet}
use Rattle.iso_code.proofs.LoadLemmas.{zip_more, get_kept}
use Rattle.iso_code.proofs.loading.load_gets.Goals as goal

pub loop-get-preserved : goal.loop-get-preserved
loop-get-preserved g c =
    let before = c.loop-get.invariant in
    let old = g.S.Store.names c.loop-get.store in
    let new = g.S.Store.names c.load_operand.new.store in
    let low = c.args.low in
    let keeps = get_kept old new c.load_operand.ensures.rest.names low in
    let made : Get = record { argument = c.get-item.result.register; operand = c.in_ok-operand.operand } in
    rw c.in_ok-push.ensures.items (record {
      loaded = zip_more (IsLoadedGet old low) (IsLoadedGet new low) c.args.gets.now c.loop-get.loaded.items c.loop-get.get-index c.get-item.result made
          keeps c.loop-get-test.true c.get-item.is before.loaded (record { argument = refl; operand = c.in_ok-operand.ensures.loaded });
      present = c.load_operand.ensures.present ∙ before.present;
      rest = retains_on before.rest c.load_operand.ensures.rest;
    })
