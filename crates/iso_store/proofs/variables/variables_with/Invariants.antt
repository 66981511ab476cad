-- What was found, and what is left, make all variables of the term.
use Rattle.std.proofs.Common.{◌≡◌}
use Rattle.iso_model.specs.Terms.Variables.{variables}
use Rattle.iso_store_core.specs.Presents.{meaning}
use Rattle.iso_store.specs.Listing.{IsListing, seen, seen_after, listing_load}
use Rattle.iso_store.proofs.variables.variables_with.Given as goal

abbrev pub invariant-loop-task : goal.invariant-loop-task
invariant-loop-task g l = record {
  listing : IsListing (g.S.Primitives.present l.store) (g.S.Primitives.at_place l.store) (g.S.Primitives.variable_place l.store) (seen (g.S.Primitives.present l.store) l.listing) l.listing;
  seen : seen_after (g.S.Primitives.present l.store) (seen (g.S.Primitives.present l.store) l.listing) l.listing.tasks.items ≡ variables (meaning (g.S.Primitives.present l.store) l.fn.word);
}

abbrev pub decreases-loop-task : goal.decreases-loop-task
decreases-loop-task g l = listing_load (g.S.Primitives.present l.store) l.listing
