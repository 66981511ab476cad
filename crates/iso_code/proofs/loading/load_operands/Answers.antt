use Rattle.std.proofs.Common.{◌∙◌}
use Rattle.iso_store_core.proofs.RetainLemmas.{retains_on}
use Rattle.iso_code.specs.Loading.{IsLoaded}
use Rattle.iso_code.proofs.LoadLemmas.{zip_more, operand_kept}
use Rattle.iso_code.proofs.loading.load_operands.Goals as goal

pub loop-part-preserved : goal.loop-part-preserved
loop-part-preserved g c =
    let before = c.loop-part.invariant in
    let old = g.S.Store.names c.loop-part.store in
    let new = g.S.Store.names c.load_operand.new.store in
    let low = c.args.low in
    let keeps = operand_kept old new c.load_operand.ensures.rest.names low c.args.side in
    rw c.in_ok-push.ensures.items (record {
      loaded = zip_more (IsLoaded old low c.args.side) (IsLoaded new low c.args.side) c.args.parts.now c.loop-part.operands.items c.loop-part.part-index c.part-item.result c.in_ok-load_operand.field-0
          keeps c.loop-part-test.true c.part-item.is before.loaded c.in_ok-load_operand.ensures.loaded;
      present = c.load_operand.ensures.present ∙ before.present;
      rest = retains_on before.rest c.load_operand.ensures.rest;
    })
