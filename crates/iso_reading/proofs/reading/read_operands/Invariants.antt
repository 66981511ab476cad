use Rattle.std.proofs.Common.{◌≡◌, ◌-◌, [], length, map, take}
use Rattle.iso_store_core.specs.Presents.{Grows}
use Rattle.iso_store_core.specs.Retaining.{RetainsAll}
use Rattle.iso_compile.specs.Orders.{parts_cells}
use Rattle.iso_code.specs.Loaded.{part_at}
use Rattle.iso_code.specs.Standing.{Carries}
use Rattle.iso_reading.proofs.LoopLemmas.{ReadsTo}
use Rattle.iso_reading.proofs.reading.read_operands.Given as goal

abbrev pub invariant-loop-index : goal.invariant-loop-index
invariant-loop-index g l = record {
  reads : ReadsTo (g.S.Store.names l.fn.store) l.fn.operands l.index (g.S.Store.present l.fn.store) (g.S.Store.present l.store) l.fn.compound l.fn.environment l.environment l.fn.compounds l.compounds;
  carries : Carries (g.S.Store.present l.fn.store) (g.S.Store.present l.store);
  environment : length l.environment ≡ length l.fn.environment;
  compounds : length l.compounds ≡ length l.fn.compounds;
  cells : Grows (g.S.Store.present l.fn.store) (g.S.Store.present l.store) (parts_cells (map (part_at [] 0) (take l.index l.fn.operands))) 0;
  rest : RetainsAll g.S.Store l.fn.store l.store;
}

abbrev pub decreases-loop-index : goal.decreases-loop-index
decreases-loop-index g l = length l.operands - l.index
