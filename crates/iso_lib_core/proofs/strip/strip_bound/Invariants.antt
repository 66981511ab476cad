-- The rest has the same stripped goal, and the terms that are left bind the other variables.
use Rattle.std.proofs.Common.{◌≡◌}
use Rattle.iso_model.specs.Terms.Variables.{distinct_from}
use Rattle.iso_model.specs.Terms.Sizes.{size}
use Rattle.iso_model.specs.Search.Groups.{stripped, bound_terms}
use Rattle.iso_store_core.specs.Presents.{Holds, meaning}
use Rattle.iso_lib_core.proofs.strip.strip_bound.Given as goal

abbrev pub invariant-loop-term : goal.invariant-loop-term
invariant-loop-term g l = record {
  holds : Holds (g.S.Store.present l.store) l.rest;
  same : stripped (meaning (g.S.Store.present l.store) l.rest) ≡ stripped (meaning (g.S.Store.present l.store) l.fn.goal);
  bound : distinct_from l.bound (bound_terms (meaning (g.S.Store.present l.store) l.rest)) ≡ distinct_from l.fn.bound (bound_terms (meaning (g.S.Store.present l.store) l.fn.goal));
}

abbrev pub decreases-loop-term : goal.decreases-loop-term
decreases-loop-term g l = size (meaning (g.S.Store.present l.store) l.rest)
