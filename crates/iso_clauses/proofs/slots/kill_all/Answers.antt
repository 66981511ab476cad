-- One clause after another is removed.
use Rattle.std.proofs.Common.{◌≡◌, ◌<◌, ◌∙◌, ap, length, reverse, get_or, arith, ◌++◌}
use Rattle.std.proofs.lemmas.List.{length-append, length-reverse, take_all}
use Rattle.iso_clauses.specs.Blocks.{ids, ids_from}
use Rattle.iso_clauses.proofs.ClearLemmas.{Clears-more}
use Rattle.iso_clauses.proofs.slots.kill_all.Goals as goal

pub loop-position-preserved : goal.loop-position-preserved
loop-position-preserved g c =
    let b = c.args.block.now in
    let k = c.loop-position.position in
    let within : k < length (ids b) = omega (arith, c.loop-position-test.true, c.len-position-end.ensures, length-append (reverse b.front) b.back, length-reverse b.front) in
    let is : c.at-id.result ≡ get_or (ids b) k c.at-id.result =
    c.at-id.ensures ∙ ap (λ o. get_or (ids_from b o) k c.at-id.result) c.outer-outer.ensures ∙ ap (λ ns. get_or (reverse ns ++ b.back) k c.at-id.result) (take_all (length b.front) b.front (omega arith)) in
    record {
      cleared = Clears-more (ids b) k c.at-id.result c.args.slots.now.items c.args.removals.now c.loop-position.slots.items c.loop-position.removals c.kill-removed.new.slots.items c.kill-removed.new.removals within is c.loop-position.invariant.cleared c.kill-removed.ensures.removes;
      counted = c.kill-removed.ensures.counted;
    }
