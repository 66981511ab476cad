-- Fewer constants are left.
use Rattle.std.proofs.Common.{length}
use Rattle.iso_search_core.proofs.offers.+unify_each.Given as goal

abbrev pub decreases-unify_each : goal.decreases-unify_each
decreases-unify_each g l = length l.constants.now
