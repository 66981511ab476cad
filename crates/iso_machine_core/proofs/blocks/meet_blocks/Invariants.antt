use Rattle.std.proofs.Common.{◌≡◌, ◌-◌, ◌≤◌, ◌+◌, length, take}
use Rattle.iso_store_core.specs.Presents.{Grows}
use Rattle.iso_store_core.specs.Retaining.{CountsCells, RetainsAll}
use Rattle.iso_code.specs.Loaded.{all_operands}
use Rattle.iso_code.specs.Standing.{files}
use Rattle.iso_writing.specs.Pushing.{news, cells_of_blocks}
use Rattle.iso_code.specs.Standing.{Carries}
use Rattle.iso_machine_core.proofs.LoopLemmas.{MeetsTo}
use Rattle.iso_machine_core.proofs.blocks.meet_blocks.Given as goal

abbrev pub invariant-loop-index : goal.invariant-loop-index
invariant-loop-index g l = record {
  inside : l.index ≤ length l.fn.blocks;
  meets : MeetsTo (g.S.Store.names l.fn.store) l.fn.blocks l.index l.fn.first (g.S.Store.present l.fn.store) (g.S.Store.present l.store)
      (files l.fn.environment l.fn.arguments l.fn.compounds) (files l.environment l.fn.arguments l.compounds);
  carries : Carries (g.S.Store.present l.fn.store) (g.S.Store.present l.store);
  environment : length l.environment ≡ length l.fn.environment;
  compounds : length l.compounds ≡ length l.fn.compounds;
  cells : CountsCells g.S.Store → Grows (g.S.Store.present l.fn.store) (g.S.Store.present l.store)
      (cells_of_blocks (take l.index l.fn.blocks) + news (all_operands (take l.index l.fn.blocks))) (news (all_operands (take l.index l.fn.blocks)));
  rest : RetainsAll g.S.Store l.fn.store l.store;
}

abbrev pub decreases-loop-index : goal.decreases-loop-index
decreases-loop-index g l = length l.blocks - l.index
