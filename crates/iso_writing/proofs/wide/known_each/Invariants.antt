use Rattle.std.proofs.Common.{◌≡◌, ◌≤◌, ◌-◌, ℕ, Bool, length, map, take}
use Rattle.std.specs.List.{All}
use Rattle.iso_model.specs.Terms.Trees.{row}
use Rattle.iso_model.specs.Terms.Substitutions.{Subst, apply}
use Rattle.iso_store_core.specs.Presents.{Holds, Grows}
use Rattle.iso_store_core.specs.Retaining.{CountsCells, RetainsAll}
use Rattle.iso_compile.specs.Orders.{parts_cells}
use Rattle.iso_compile.specs.Table.{Registers, part_row}
use Rattle.iso_code.specs.Loaded.{IsMet, part_at}
use Rattle.iso_code.specs.Standing.{Known}
use Rattle.iso_writing.specs.Writing.{Adds}
use Rattle.iso_writing.proofs.wide.known_each.Given as goal

abbrev pub invariant-loop-index : goal.invariant-loop-index
invariant-loop-index g l = record {
  inside : l.index ≤ length l.operands;
  room : length l.words ≡ length l.operands;
  words : (own by : Subst) (next low : ℕ) (met : ℕ → Bool) (rs : Registers) → Known (g.S.Store.present l.fn.store) own by next low met l.environment l.compounds rs → All (IsMet met) l.operands
      → apply own (row (map (g.S.Store.present l.store).term (take l.index l.words))) ≡ apply by (part_row next rs (map (part_at (g.S.Store.names l.fn.store) low) (take l.index l.operands)));
  hold : All (Holds (g.S.Store.present l.store)) (take l.index l.words);
  adds : Adds (g.S.Store.present l.fn.store) (g.S.Store.present l.store);
  cells : CountsCells g.S.Store → Grows (g.S.Store.present l.fn.store) (g.S.Store.present l.store) (parts_cells (map (part_at (g.S.Store.names l.fn.store) 0) (take l.index l.operands))) 0;
  rest : RetainsAll g.S.Store l.fn.store l.store;
}

abbrev pub decreases-loop-index : goal.decreases-loop-index
decreases-loop-index g l = length l.operands - l.index
