use Rattle.std.proofs.Common.{◌≡◌, ◌≢◌, ◌∷◌, [], ◌++◌, ◌+◌, length, take, ap, sym, ◌∙◌, true, subst}
use Rattle.std.proofs.lemmas.List.{take_more}
use Rattle.iso_store.specs.declared.heap_cells.Piece.TheVariants.{Variable as Place}
use Rattle.iso_store.specs.HeapBuilds.{is_piece}
use Rattle.iso_store.proofs.HeapBuilding.{goes-then, pushed-more}
use Rattle.iso_store.proofs.heap_builds.push_pieces.Goals as goal

pub returns-in_err-push_piece-clause-goes_on : goal.returns-in_err-push_piece-clause-goes_on
returns-in_err-push_piece-clause-goes_on c = goes-then c.loop-piece.invariant.goes_on c.push_piece.ensures.goes_on

pub returns-in_err-push_piece-clause-others : goal.returns-in_err-push_piece-clause-others
returns-in_err-push_piece-clause-others c k all =
    c.push_piece.ensures.others k (subst (λ p. p ≢ Place k) (sym c.piece-item.is) (all c.loop-piece.piece-index c.piece-item.result c.loop-piece-test.true)) ∙ c.loop-piece.invariant.others k all

pub loop-piece-preserved : goal.loop-piece-preserved
loop-piece-preserved c =
    let old = c.args.heap.now in
    let names = take old.named old.atoms in
    let count = length c.args.places.now.items in
    let so = c.loop-piece.invariant in
    let i = c.loop-piece.piece-index in
    let piece = c.piece-item.result in
    let longer : take (i + 1) c.args.pieces.now ≡ take i c.args.pieces.now ++ piece ∷ [] =
    take_more c.args.pieces.now i piece c.loop-piece-test.true ∙ ap (λ p. take i c.args.pieces.now ++ p ∷ []) (sym c.piece-item.is) in
    let one = rw (so.goes_on.named, so.goes_on.atoms) at c.in_ok-push_piece.ensures.pushed in
    let holds = subst (λ p. is_piece names old.area.low count p ≡ true) (sym c.piece-item.is) (c.requires.pieces i piece c.loop-piece-test.true) in
    record {
      pushed = rw longer (pushed-more names c.args.first count old.area.low c.loop-piece.heap.area.low c.push_piece.new.heap.area.low (take i c.args.pieces.now) piece so.goes_on.cells.0 so.goes_on.cells.1 holds so.pushed one);
      cells = c.push_piece.ensures.cells;
      count = c.push_piece.ensures.count ∙ so.count;
      goes_on = goes-then so.goes_on c.push_piece.ensures.goes_on;
      others = λ k all. c.push_piece.ensures.others k (subst (λ p. p ≢ Place k) (sym c.piece-item.is) (all i piece c.loop-piece-test.true)) ∙ so.others k all;
    }
