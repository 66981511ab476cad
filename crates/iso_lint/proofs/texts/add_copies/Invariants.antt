-- Copies of those so far are added.
use Rattle.std.proofs.Common.{◌≡◌, ◌++◌, map, take}
use Rattle.iso_lint.specs.FindingViews.{finding_of}
use Rattle.iso_lint.proofs.texts.add_copies.Given as goal

abbrev pub invariant-loop-finding : goal.invariant-loop-finding
invariant-loop-finding l = map finding_of l.found.items ≡ map finding_of l.initial.found.items ++ map finding_of (take l.finding-index l.from)
