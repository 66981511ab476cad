use Rattle.std.proofs.Common.{length, refl}
use Rattle.iso_store.specs.declared.heap_cells.Cell.TheVariants.{Functor}
use Rattle.iso_store.proofs.HeapBuilding.{cells-other, compound-comes, goes-same, goes-then}
use Rattle.iso_store.proofs.heap_builds.make_compound.Goals as goal

pub returns-in_err-place-clause-goes_on : goal.returns-in_err-place-clause-goes_on
returns-in_err-place-clause-goes_on c =
    let last = c.in_err-place.ensures in
    goes-then c.push_pieces.ensures.goes_on (goes-same c.args.first c.push_pieces.new.heap c.push.new.self last.low last.high last.capacity last.atoms last.named last.next last.newest)

pub returns-clause-cells : goal.returns-clause-cells
returns-clause-cells c =
    cells-other c.push_pieces.new.heap.area.low c.args.first c.push_pieces.new.places.items c.push_pieces.ensures.cells c.push.new.self.area.low (Functor c.args.name (length c.args.pieces.now)) (λ n. refl) c.in_ok-place.ensures.low

pub returns-clause-goes_on : goal.returns-clause-goes_on
returns-clause-goes_on c =
    let last = c.in_ok-place.ensures in
    (compound-comes c.args.first c.args.heap.now c.push_pieces.new.heap c.args.pieces.now c.args.name c.in_ok-push_pieces.ensures.pushed c.push_pieces.ensures.goes_on c.requires.name c.requires.some c.requires.few
    c.push.new.self last.high last.capacity last.atoms last.named last.next last.newest last.low last.room).0

pub returns-clause-made : goal.returns-clause-made
returns-clause-made c =
    let last = c.in_ok-place.ensures in
    rw last.place ((compound-comes c.args.first c.args.heap.now c.push_pieces.new.heap c.args.pieces.now c.args.name c.in_ok-push_pieces.ensures.pushed c.push_pieces.ensures.goes_on c.requires.name c.requires.some c.requires.few
    c.push.new.self last.high last.capacity last.atoms last.named last.next last.newest last.low last.room).1 (length c.args.places.now.items))
