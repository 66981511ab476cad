use Rattle.std.proofs.Common.{sym, subst}
use Rattle.iso_ops.specs.Operators.{IsOpTable}
use Rattle.iso_ops.proofs.InitialLemmas.{IsOpTable-initial_entries}
use Rattle.iso_ops.proofs.table.OpTable.initial.Goals as goal

pub invariant_of-result : goal.invariant_of-result
invariant_of-result c = subst IsOpTable (sym c.in_ok-entries.ensures) IsOpTable-initial_entries

pub returns-clause-table : goal.returns-clause-table
returns-clause-table c = invariant_of-result c
