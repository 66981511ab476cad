-- The procedures of the items so far are noted.
use Rattle.std.proofs.Common.{map, take}
use Rattle.iso_lint.specs.Findings as spec
use Rattle.iso_lint.specs.ItemViews.{item_of}
use Rattle.iso_lint.specs.Tables.{Knows}
use Rattle.iso_lint.proofs.texts.known_in.Given as goal

abbrev pub invariant-loop-item : goal.invariant-loop-item
invariant-loop-item l = Knows l.table.numbers (spec.known_in (map item_of (take l.item-index l.items)))
