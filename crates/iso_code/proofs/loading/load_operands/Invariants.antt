-- The parts so far were loaded.
use Rattle.std.proofs.Common.{◌≡◌, take}
use Rattle.std.specs.List.{AllZip}
use Rattle.iso_store_core.specs.Retaining.{Retains}
use Rattle.iso_code.specs.Loading.{IsLoaded}
use Rattle.iso_code.proofs.loading.load_operands.Given as goal

abbrev pub invariant-loop-part : goal.invariant-loop-part
invariant-loop-part g l = record {
  loaded : AllZip (IsLoaded (g.S.Store.names l.store) l.low l.side) (take l.part-index l.parts) l.operands.items;
  present : g.S.Store.present l.store ≡ g.S.Store.present l.fn.store;
  rest : Retains g.S.Store l.fn.store l.store;
}
