-- The rows are those of the table.
use Rattle.iso_ops.specs.InitialOperators.{initial_entries}
use Rattle.iso_ops.proofs.initial.initial_rows.Goals as goal

pub returns : goal.returns
unfolding initial_entries
returns c = c.entries_of.ensures
