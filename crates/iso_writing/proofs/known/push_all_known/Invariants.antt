use Rattle.std.proofs.Common.{◌≡◌, ℕ, Bool, List, length, map, take}
use Rattle.std.specs.List.{All}
use Rattle.iso_model.specs.Terms.Trees.{Tree}
use Rattle.iso_model.specs.Terms.Substitutions.{Subst}
use Rattle.iso_store_core.specs.Presents.{Grows}
use Rattle.iso_store_core.specs.Retaining.{RetainsAll}
use Rattle.iso_compile.specs.Table.{Registers, part_row}
use Rattle.iso_code.specs.Loaded.{IsMet, part_at}
use Rattle.iso_code.specs.Standing.{Known}
use Rattle.iso_writing.specs.Pushing.{ArePushed}
use Rattle.iso_writing.specs.Writing.{Adds}
use Rattle.iso_writing.proofs.known.push_all_known.Given as goal

abbrev pub invariant-loop-operand : goal.invariant-loop-operand
invariant-loop-operand g l = record {
  come : (ts : List Tree) × g.S.Cells.pushed l.store ts × (length ts ≡ l.operand-index);
  pushed : (own by : Subst) (next low : ℕ) (met : ℕ → Bool) (rs : Registers) → Known (g.S.Store.present l.fn.store) own by next low met l.environment l.compounds rs → All (IsMet met) l.operands
      → ArePushed g.S.Cells.pushed l.store own by (part_row next rs (map (part_at (g.S.Store.names l.fn.store) low) (take l.operand-index l.operands))) l.operand-index;
  adds : Adds (g.S.Store.present l.fn.store) (g.S.Store.present l.store);
  cells : Grows (g.S.Store.present l.fn.store) (g.S.Store.present l.store) l.operand-index 0;
  rest : RetainsAll g.S.Store l.fn.store l.store;
}
