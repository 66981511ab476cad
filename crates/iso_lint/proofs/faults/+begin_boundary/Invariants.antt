-- The distance gets less.
use Rattle.std.proofs.Common.{◌-◌}
use Rattle.iso_lint.proofs.faults.+begin_boundary.Given as goal

abbrev pub decreases-begin_boundary : goal.decreases-begin_boundary
decreases-begin_boundary l = l.high - l.low
