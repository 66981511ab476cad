-- The rest has the same stripped goal.
use Rattle.std.proofs.Common.{◌≡◌}
use Rattle.iso_model.specs.Terms.Sizes.{size}
use Rattle.iso_model.specs.Search.Groups.{stripped}
use Rattle.iso_store_core.specs.Presents.{Holds, meaning}
use Rattle.iso_search_core.proofs.exists.stripped.Given as goal

abbrev pub invariant-loop-next : goal.invariant-loop-next
invariant-loop-next g l = record {
  holds : Holds (g.S.Store.present l.store) l.rest;
  same : stripped (meaning (g.S.Store.present l.store) l.rest) ≡ stripped (meaning (g.S.Store.present l.store) l.fn.goal);
}

abbrev pub decreases-loop-next : goal.decreases-loop-next
decreases-loop-next g l = size (meaning (g.S.Store.present l.store) l.rest)
