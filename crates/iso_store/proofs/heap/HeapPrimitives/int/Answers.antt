use Rattle.std.proofs.Common.{take, rules}
use Rattle.std.proofs.lemmas.Int.{to_z-of_z}
use mir.Val.{SFits}
use mir.Syntax.{w128}
use Rattle.iso_store.proofs.HeapMade.{wide-makes}
use Rattle.iso_store.proofs.heap.HeapPrimitives.int.Goals as goal

pub returns-clause-made : goal.returns-clause-made
returns-clause-made c =
    let now = c.args.self.now in
    let fits : SFits w128 c.args.value = search rules in
    let low = rw (to_z-of_z w128 c.args.value fits) at c.in_ok-place.ensures.low in
    let made = wide-makes (take now.named now.atoms) now.area.low now.next now.area.capacity c.args.value now.is_heap in
    rw (c.in_ok-place.ensures.place, low, c.in_ok-place.ensures.capacity, c.in_ok-place.ensures.atoms, c.in_ok-place.ensures.named, c.in_ok-place.ensures.next) made
