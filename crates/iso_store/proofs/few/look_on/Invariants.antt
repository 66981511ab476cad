-- The variable is in none of the arguments so far.
use Rattle.std.proofs.Common.{◌≡◌, ◌-◌, ◌≤◌}
use Rattle.iso_model.specs.Terms.Trees.{row}
use Rattle.iso_model.specs.Terms.Variables.{occurs}
use Rattle.iso_store_core.specs.Arguments.{arguments_from}
use Rattle.iso_store_core.specs.Presents.{meaning}
use Rattle.iso_store.proofs.few.look_on.Given as goal

abbrev pub invariant-loop-index : goal.invariant-loop-index
invariant-loop-index g l = record {
  within : l.index ≤ l.count;
  same : occurs l.number (row (arguments_from l.fn.index (meaning (g.S.Primitives.present l.store) l.compound))) ≡ occurs l.number (row (arguments_from l.index (meaning (g.S.Primitives.present l.store) l.compound)));
}

abbrev pub decreases-loop-index : goal.decreases-loop-index
decreases-loop-index g l = l.count - l.index
