-- The first names have become entries behind the old ones.
use Rattle.std.proofs.Common.{◌≡◌, ◌++◌, map, take}
use Rattle.iso_ops.specs.InitialOperators.{row_of}
use Rattle.iso_ops.specs.Entries.{operator_of, text_of}
use Rattle.iso_ops.proofs.initial.Row.push_to.Given as goal

abbrev pub invariant-loop-name : goal.invariant-loop-name
invariant-loop-name l = map operator_of l.entries.items ≡ map operator_of l.initial.entries.items ++ row_of l.priority l.spec (map text_of (take l.name-index l.names))
