use Rattle.std.proofs.Common.{take}
use Rattle.iso_store.proofs.NodeSorts.{sorted-out}
use Rattle.iso_store.specs.HeapSorted.{sorted-meaning}
use Rattle.iso_store.proofs.heap.HeapStore.copy_out.Goals as goal

pub returns-clause-well_formed : goal.returns-clause-well_formed
returns-clause-well_formed c =
    let now = c.args.self.now in
    sorted-out _ (sorted-meaning (take now.named now.atoms) now.area.low now.next now.is_heap c.args.word c.requires) c.copy_out.result c.copy_out.ensures
