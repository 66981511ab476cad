use Rattle.std.proofs.Common.{map}
use Rattle.iso_lint.specs.Findings as spec
use Rattle.iso_lint.specs.ItemViews.{item_of}
use Rattle.iso_lint.proofs.FoundLemmas.{found_later}
use Rattle.iso_lint.proofs.texts.found_in.Goals as goal

pub loop-item-preserved : goal.loop-item-preserved
loop-item-preserved c =
    let items = map item_of c.args.items.now in
    let known = spec.known_in items in
    let loose = spec.loose_in items in
    found_later known loose (spec.found_in items) _ _ c.args.items.now c.loop-item.item-index c.item-item.result _ _ _ _ _ c.loop-item-test.true c.item-item.is
    (λ cs seen. c.in_ok-add_found.ensures known loose cs c.in_ok-known.ensures c.in_ok-loose.ensures seen) c.defined_in.ensures (λ cs seen. c.in_ok-note.ensures cs seen) c.loop-item.invariant
