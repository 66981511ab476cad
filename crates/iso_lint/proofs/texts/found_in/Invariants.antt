-- What is found so far, and what is found at the items that are left, are all.
use Rattle.std.proofs.Common.{map, drop}
use Rattle.iso_lint.specs.FindingViews.{finding_of}
use Rattle.iso_lint.specs.Findings as spec
use Rattle.iso_lint.specs.ItemViews.{item_of}
use Rattle.iso_lint.proofs.FoundLemmas.{AreFound}
use Rattle.iso_lint.proofs.texts.found_in.Given as goal

abbrev pub invariant-loop-item : goal.invariant-loop-item
invariant-loop-item l =
    let items = map item_of l.items in
    AreFound (spec.known_in items) (spec.loose_in items) (spec.found_in items) (map finding_of l.found.items) (map item_of (drop l.item-index l.items)) l.seen.last.numbers l.seen.previous
