use Rattle.std.proofs.Common.{take}
use Rattle.iso_store.proofs.HeapMade.{variable-makes}
use Rattle.iso_store.proofs.HeapInstructionLemmas.{last-variable}
use Rattle.iso_store.proofs.heap_instructions.HeapCells.push_variable.Goals as goal

pub returns-clause-pushed : goal.returns-clause-pushed
returns-clause-pushed c ts last =
    let now = c.args.self.now in
    let after = c.in_ok-place.ensures in
    rw (after.low, after.atoms, after.named) (last-variable (take now.named now.atoms) now.area.low ts last c.args.number)

pub returns-clause-made : goal.returns-clause-made
returns-clause-made c =
    let now = c.args.self.now in
    let after = c.in_ok-place.ensures in
    rw (after.place, after.low, after.capacity, after.atoms, after.named, after.next) (variable-makes (take now.named now.atoms) now.area.low now.next now.area.capacity c.args.number now.is_heap (c.requires.reserved, c.requires.free))
