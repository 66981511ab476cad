-- The first entries have been copied.
use Rattle.std.proofs.Common.{◌≡◌, map, take}
use Rattle.iso_ops.specs.Entries.{operator_of}
use Rattle.iso_ops.proofs.table.copied_entries.Given as goal

abbrev pub invariant-loop-entry : goal.invariant-loop-entry
invariant-loop-entry l = map operator_of l.copy.items ≡ map operator_of (take l.entry-index l.entries)
