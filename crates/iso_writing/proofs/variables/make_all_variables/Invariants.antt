-- The variables of the blocks so far were made.
use Rattle.std.proofs.Common.{◌≡◌, length, take}
use Rattle.iso_store_core.specs.Presents.{Grows}
use Rattle.iso_store_core.specs.Retaining.{RetainsAll}
use Rattle.iso_code.specs.Loaded.{all_operands}
use Rattle.iso_writing.specs.Pushing.{news}
use Rattle.iso_writing.specs.Writing.{Widens, MakesVariables}
use Rattle.iso_writing.proofs.variables.make_all_variables.Given as goal

abbrev pub invariant-loop-block : goal.invariant-loop-block
invariant-loop-block g l = record {
  makes : MakesVariables (all_operands (take l.block-index l.blocks)) l.fn.first (g.S.Store.present l.fn.store) (g.S.Store.present l.store)
      l.fn.environment l.environment;
  widens : Widens (g.S.Store.present l.fn.store) (g.S.Store.present l.store);
  count : length l.environment ≡ length l.fn.environment;
  cells : Grows (g.S.Store.present l.fn.store) (g.S.Store.present l.store)
      (news (all_operands (take l.block-index l.blocks))) (news (all_operands (take l.block-index l.blocks)));
  rest : RetainsAll g.S.Store l.fn.store l.store;
}
