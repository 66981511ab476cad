-- The parts so far, and then those of the terms that are left, are all.
use Rattle.std.proofs.Common.{◌≡◌, ◌++◌, map}
use Rattle.std.specs.List.{All}
use Rattle.iso_model.specs.Search.Storages as table
use Rattle.iso_store_core.specs.Presents.{Holds, meaning}
use Rattle.iso_lib.proofs.IndicatorLemmas.{parts_left, weight_left}
use Rattle.iso_lib.proofs.indicators.declared_parts.Given as goal

abbrev pub invariant-loop-next : goal.invariant-loop-next
invariant-loop-next g l = record {
  hold : All (λ w. Holds (g.S.Store.present l.store) w) l.parts.items;
  wait : All (λ w. Holds (g.S.Store.present l.store) w) l.left.items;
  parts : table.declared_parts (meaning (g.S.Store.present l.store) l.fn.word) ≡ map (meaning (g.S.Store.present l.store)) l.parts.items ++ parts_left (map (meaning (g.S.Store.present l.store)) l.left.items);
}

abbrev pub decreases-loop-next : goal.decreases-loop-next
decreases-loop-next g l = weight_left (map (meaning (g.S.Store.present l.store)) l.left.items)
