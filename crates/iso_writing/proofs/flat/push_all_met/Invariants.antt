-- The operands so far are pushed.
use Rattle.std.proofs.Common.{◌≡◌, ℕ, Bool, List, length, map, take}
use Rattle.iso_store_core.specs.Presents.{Grows}
use Rattle.iso_store_core.specs.Retaining.{RetainsAll}
use Rattle.iso_compile.specs.CodeLaws.{State}
use Rattle.iso_compile.specs.Table.{part_row}
use Rattle.iso_code.specs.Loaded.{AreMarked, part_at}
use Rattle.iso_code.specs.Standing.{Setting, Stands}
use Rattle.iso_writing.specs.Pushing.{ArePushed, news}
use Rattle.iso_writing.specs.Writing.{Widens, MakesVariables}
use Rattle.iso_code.specs.Standing.{files}
use Rattle.iso_writing.proofs.flat.push_all_met.Given as goal

abbrev pub invariant-loop-operand : goal.invariant-loop-operand
invariant-loop-operand g l = record {
  makes : MakesVariables (take l.operand-index l.operands) l.fn.first (g.S.Store.present l.fn.store) (g.S.Store.present l.store) l.fn.environment l.environment;
  pushed : (arguments : List g.row.S-Word.Denot) (t : Setting) (met : ℕ → Bool) (state : State)
      → Stands (g.S.Store.present l.fn.store) (files l.fn.environment arguments l.fn.compounds) t met state → t.first ≡ l.fn.first → AreMarked met l.operands
      → ArePushed g.S.Cells.pushed l.store (g.S.Store.present l.fn.store).substitution state.subst
      (part_row l.fn.first state.registers (map (part_at (g.S.Store.names l.fn.store) t.low) (take l.operand-index l.operands))) l.operand-index;
  widens : Widens (g.S.Store.present l.fn.store) (g.S.Store.present l.store);
  count : length l.environment ≡ length l.fn.environment;
  cells : Grows (g.S.Store.present l.fn.store) (g.S.Store.present l.store) l.operand-index (news (take l.operand-index l.operands));
  rest : RetainsAll g.S.Store l.fn.store l.store;
}
