use Rattle.std.proofs.Common.{take}
use Rattle.iso_store.specs.HeapSorted.{substitution-is}
use Rattle.iso_store.proofs.heap.HeapStore.mark.Goals as goal

pub returns-clause-substitution : goal.returns-clause-substitution
returns-clause-substitution c =
    let now = c.args.self.now in
    substitution-is (take now.named now.atoms) now.area.low now.next now.is_heap
