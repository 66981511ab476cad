use Rattle.std.proofs.Common.{◌≡◌, ◌-◌, length, drop}
use Rattle.std.specs.List.{All}
use Rattle.iso_store_core.specs.Presents.{Holds, Grows}
use Rattle.iso_store_core.specs.Retaining.{CountsCells, RetainsAll}
use Rattle.iso_writing.specs.Pushing.{cells_of_blocks}
use Rattle.iso_writing.specs.Writing.{Adds, MakesAll}
use Rattle.iso_writing.proofs.known.write_all.Given as goal

abbrev pub invariant-loop-block : goal.invariant-loop-block
invariant-loop-block g l = record {
  made : MakesAll (g.S.Store.names l.fn.store) (drop (length l.blocks - length l.yielded) l.blocks) (g.S.Store.present l.fn.store) (g.S.Store.present l.store) l.environment l.fn.compounds l.compounds;
  count : length l.compounds ≡ length l.fn.compounds;
  hold : All (Holds (g.S.Store.present l.store)) l.compounds;
  adds : Adds (g.S.Store.present l.fn.store) (g.S.Store.present l.store);
  cells : CountsCells g.S.Store → Grows (g.S.Store.present l.fn.store) (g.S.Store.present l.store) (cells_of_blocks (drop (length l.blocks - length l.yielded) l.blocks)) 0;
  rest : RetainsAll g.S.Store l.fn.store l.store;
}
