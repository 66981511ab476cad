-- The rest has the same end.
use Rattle.std.proofs.Common.{◌≡◌}
use Rattle.iso_model.specs.Terms.Lists.{tail}
use Rattle.iso_model.specs.Terms.Sizes.{size}
use Rattle.iso_store_core.specs.Presents.{Holds, meaning}
use Rattle.iso_lib_core.proofs.lists.tail.Given as goal

abbrev pub invariant-loop-next : goal.invariant-loop-next
invariant-loop-next g l = record {
  holds : Holds (g.S.Store.present l.store) l.rest;
  same : tail (meaning (g.S.Store.present l.store) l.rest) ≡ tail (meaning (g.S.Store.present l.store) l.fn.word);
}

abbrev pub decreases-loop-next : goal.decreases-loop-next
decreases-loop-next g l = size (meaning (g.S.Store.present l.store) l.rest)
