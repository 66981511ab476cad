use Rattle.iso_store_core.specs.Presents.{meaning}
use Rattle.iso_store.specs.NodeStores.{present_of}
use Rattle.iso_store.proofs.CellCounts.{nodes-within}
use Rattle.iso_store.proofs.Gathering.{grows-within}
use Rattle.iso_store.proofs.nodes.NodesStore.copy.Goals as goal

pub returns-clause-cells : goal.returns-clause-cells
returns-clause-cells c =
    let now = c.args.self.now in
    grows-within _ c.duplicate.ensures.cells (nodes-within (meaning (present_of now.atoms now.nodes.items now.trail.items now.next now.limit) c.args.word))
