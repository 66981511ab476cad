-- The blocks so far were loaded.
use Rattle.std.proofs.Common.{◌≡◌, take}
use Rattle.std.specs.List.{AllZip}
use Rattle.iso_store_core.specs.Retaining.{Retains}
use Rattle.iso_code.specs.Loading.{IsLoadedBlock}
use Rattle.iso_code.proofs.loading.load_blocks.Given as goal

abbrev pub invariant-loop-block : goal.invariant-loop-block
invariant-loop-block g l = record {
  loaded : AllZip (IsLoadedBlock (g.S.Store.names l.store) l.low l.arity l.side) (take l.block-index l.blocks) l.loaded.items;
  present : g.S.Store.present l.store ≡ g.S.Store.present l.fn.store;
  rest : Retains g.S.Store l.fn.store l.store;
}
