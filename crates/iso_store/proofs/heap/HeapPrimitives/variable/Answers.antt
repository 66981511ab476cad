use Rattle.std.proofs.Common.{take}
use Rattle.iso_store.proofs.HeapMade.{variable-makes}
use Rattle.iso_store.proofs.heap.HeapPrimitives.variable.Goals as goal

pub returns-clause-made : goal.returns-clause-made
returns-clause-made c =
    let now = c.args.self.now in
    let made = variable-makes (take now.named now.atoms) now.area.low now.next now.area.capacity c.args.number now.is_heap (c.requires.reserved, c.requires.free) in
    rw (c.in_ok-place.ensures.place, c.in_ok-place.ensures.low, c.in_ok-place.ensures.capacity, c.in_ok-place.ensures.atoms, c.in_ok-place.ensures.named, c.in_ok-place.ensures.next) made
