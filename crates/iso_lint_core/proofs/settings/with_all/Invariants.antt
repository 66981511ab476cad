-- The operators so far, with those of the names that are left, are all that are set.
use Rattle.std.proofs.Common.{◌≡◌, map, drop}
use Rattle.iso_ops.specs.Entries.{text_of}
use Rattle.iso_lint_core.specs.Names.{set_all}
use Rattle.iso_lint_core.proofs.settings.with_all.Given as goal

abbrev pub invariant-loop-name : goal.invariant-loop-name
invariant-loop-name l = set_all l.priority l.specifier (map text_of (drop l.name-index l.names)) l.table ≡ set_all l.priority l.specifier (map text_of l.names) l.ops
