-- The variables of the operands so far were made.
use Rattle.std.proofs.Common.{◌≡◌, length, take}
use Rattle.iso_store_core.specs.Presents.{Grows}
use Rattle.iso_store_core.specs.Retaining.{RetainsAll}
use Rattle.iso_writing.specs.Pushing.{news}
use Rattle.iso_writing.specs.Writing.{Widens, MakesVariables}
use Rattle.iso_writing.proofs.variables.make_variables.Given as goal

abbrev pub invariant-loop-operand : goal.invariant-loop-operand
invariant-loop-operand g l = record {
  makes : MakesVariables (take l.operand-index l.operands) l.fn.first (g.S.Store.present l.fn.store) (g.S.Store.present l.store) l.fn.environment l.environment;
  widens : Widens (g.S.Store.present l.fn.store) (g.S.Store.present l.store);
  count : length l.environment ≡ length l.fn.environment;
  cells : Grows (g.S.Store.present l.fn.store) (g.S.Store.present l.store) (news (take l.operand-index l.operands)) (news (take l.operand-index l.operands));
  rest : RetainsAll g.S.Store l.fn.store l.store;
}
