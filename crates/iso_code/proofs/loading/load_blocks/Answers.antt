use Rattle.std.proofs.Common.{◌∙◌}
use Rattle.iso_store_core.proofs.RetainLemmas.{retains_on}
use Rattle.iso_code.specs.Loading.{IsLoadedBlock}
use Rattle.iso_code.proofs.LoadLemmas.{zip_more, block_kept}
use Rattle.iso_code.proofs.loading.load_blocks.Goals as goal

pub loop-block-preserved : goal.loop-block-preserved
loop-block-preserved g c =
    let before = c.loop-block.invariant in
    let old = g.S.Store.names c.loop-block.store in
    let new = g.S.Store.names c.load_block.new.store in
    let low = c.args.low in
    let arity = c.args.arity in
    let keeps = block_kept old new c.load_block.ensures.rest.names low arity c.args.side in
    rw c.in_ok-push.ensures.items (record {
      loaded = zip_more (IsLoadedBlock old low arity c.args.side) (IsLoadedBlock new low arity c.args.side) c.args.blocks.now c.loop-block.loaded.items c.loop-block.block-index c.block-item.result
          c.in_ok-load_block.field-0 keeps c.loop-block-test.true c.block-item.is before.loaded c.in_ok-load_block.ensures.loaded;
      present = c.load_block.ensures.present ∙ before.present;
      rest = retains_on before.rest c.load_block.ensures.rest;
    })
