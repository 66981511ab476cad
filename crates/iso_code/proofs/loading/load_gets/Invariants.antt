-- What was read so far was loaded.
use Rattle.std.proofs.Common.{◌≡◌, take}
use Rattle.std.specs.List.{AllZip}
use Rattle.iso_store_core.specs.Retaining.{Retains}
use Rattle.iso_code.specs.Loading.{IsLoadedGet}
use Rattle.iso_code.proofs.loading.load_gets.Given as goal

abbrev pub invariant-loop-get : goal.invariant-loop-get
invariant-loop-get g l = record {
  loaded : AllZip (IsLoadedGet (g.S.Store.names l.store) l.low) (take l.get-index l.gets) l.loaded.items;
  present : g.S.Store.present l.store ≡ g.S.Store.present l.fn.store;
  rest : Retains g.S.Store l.fn.store l.store;
}
