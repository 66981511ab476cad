-- One number more whose clause was removed.
use Rattle.std.proofs.Common.{◌≡◌, ◌<◌, ◌+◌, ◌∙◌, ap, sym, subst, length, reverse, get_or, take, arith, is_some, false, ◌++◌, ◌∷◌, []}
use Rattle.std.specs.List.{All}
use Rattle.std.proofs.lemmas.List.{length-append, length-reverse, take_all, take_more}
use Rattle.std.proofs.lemmas.List.Elements.{All-push}
use Rattle.iso_clauses.specs.Blocks.{ids, ids_from}
use Rattle.iso_clauses.specs.Slots.{clause_at}
use Rattle.iso_clauses.proofs.tidying.passed.Goals as goal

pub loop-position-preserved : goal.loop-position-preserved
loop-position-preserved g c =
    let b = c.args.block.now in
    let k = c.loop-position.position in
    let x = c.at.result in
    let within : k < length (ids b) = omega (arith, c.loop-position-test.true, c.len-end.ensures, length-append (reverse b.front) b.back, length-reverse b.front) in
    let is : x ≡ get_or (ids b) k x =
    c.at.ensures ∙ ap (λ o. get_or (ids_from b o) k x) c.outer-outer.ensures ∙ ap (λ ns. get_or (reverse ns ++ b.back) k x) (take_all (length b.front) b.front (omega arith)) in
    let more : take (k + 1) (ids b) ≡ take k (ids b) ++ x ∷ [] = take_more (ids b) k x within ∙ ap (λ y. take k (ids b) ++ y ∷ []) (sym is) in
    let gone : is_some (clause_at {C = g.row.C.Denot} c.args.slots.now c.args.removals x) ≡ false = sym c.is_given.ensures ∙ c.if-is_given.false in
    subst (All (λ n. is_some (clause_at {C = g.row.C.Denot} c.args.slots.now c.args.removals n) ≡ false)) (sym more)
    (All-push (λ n. is_some (clause_at {C = g.row.C.Denot} c.args.slots.now c.args.removals n) ≡ false) (take k (ids b)) x c.loop-position.invariant gone)
