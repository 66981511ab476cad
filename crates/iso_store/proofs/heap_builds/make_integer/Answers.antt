use Rattle.std.proofs.Common.{refl, rules}
use Rattle.std.proofs.lemmas.Int.{to_z-of_z}
use mir.Val.{SFits}
use mir.Syntax.{w128}
use Rattle.iso_store.specs.declared.heap_cells.Cell.TheVariants.{Wide}
use Rattle.iso_store.proofs.HeapBuilding.{pushed-goes, cells-other, wide-comes}
use Rattle.iso_store.proofs.heap_builds.make_integer.Goals as goal

pub returns-clause-made : goal.returns-clause-made
returns-clause-made c =
    let now = c.args.heap.now in
    let after = c.in_ok-place.ensures in
    let fits : SFits w128 c.args.value = search rules in
    let low = rw (to_z-of_z w128 c.args.value fits) at after.low in
    let goes = pushed-goes c.args.first now c.push.new.self (Wide c.args.value) now.is_heap tt (λ n below. refl) after.high after.capacity after.atoms after.named after.next after.newest low after.room in
    rw after.place (wide-comes c.args.first now c.push.new.self c.args.value goes low _)

pub returns-clause-cells : goal.returns-clause-cells
returns-clause-cells c =
    let fits : SFits w128 c.args.value = search rules in
    cells-other _ _ _ c.requires.cells _ (Wide c.args.value) (λ n. refl) (rw (to_z-of_z w128 c.args.value fits) at c.in_ok-place.ensures.low)

pub returns-clause-goes_on : goal.returns-clause-goes_on
returns-clause-goes_on c =
    let now = c.args.heap.now in
    let after = c.in_ok-place.ensures in
    let fits : SFits w128 c.args.value = search rules in
    let low = rw (to_z-of_z w128 c.args.value fits) at after.low in
    pushed-goes c.args.first now c.push.new.self (Wide c.args.value) now.is_heap tt (λ n below. refl) after.high after.capacity after.atoms after.named after.next after.newest low after.room
