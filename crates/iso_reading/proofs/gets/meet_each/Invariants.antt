use Rattle.std.proofs.Common.{◌≡◌, [], length, map, take}
use Rattle.iso_store_core.specs.Presents.{Grows}
use Rattle.iso_store_core.specs.Retaining.{RetainsAll}
use Rattle.iso_compile.specs.Orders.{parts_cells}
use Rattle.iso_code.specs.Loaded.{part_at, operand_got}
use Rattle.iso_code.specs.Standing.{Carries}
use Rattle.iso_reading.proofs.GetLemmas.{GetsTo}
use Rattle.iso_reading.proofs.gets.meet_each.Given as goal

abbrev pub invariant-loop-get : goal.invariant-loop-get
invariant-loop-get g l = record {
  gets : GetsTo (g.S.Store.names l.fn.store) l.fn.gets l.get-index (g.S.Store.present l.fn.store) (g.S.Store.present l.store) l.fn.environment l.environment l.fn.arguments l.fn.compounds;
  carries : Carries (g.S.Store.present l.fn.store) (g.S.Store.present l.store);
  environment : length l.environment ≡ length l.fn.environment;
  compounds : l.compounds ≡ l.fn.compounds;
  cells : Grows (g.S.Store.present l.fn.store) (g.S.Store.present l.store) (parts_cells (map (part_at [] 0) (map operand_got (take l.get-index l.fn.gets)))) 0;
  rest : RetainsAll g.S.Store l.fn.store l.store;
}
