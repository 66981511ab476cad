-- The first rows have become entries.
use Rattle.std.proofs.Common.{◌≡◌, map, take}
use Rattle.iso_ops.specs.Entries.{operator_of}
use Rattle.iso_ops.specs.Rows.{operators_of}
use Rattle.iso_ops.proofs.initial.entries_of.Given as goal

abbrev pub invariant-loop-row : goal.invariant-loop-row
invariant-loop-row l = map operator_of l.entries.items ≡ operators_of (take l.row-index l.rows)
