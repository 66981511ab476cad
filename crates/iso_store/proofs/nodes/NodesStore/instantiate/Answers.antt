use Rattle.iso_store.proofs.CellCounts.{nodes-no-wider}
use Rattle.iso_store.proofs.Gathering.{grows-within}
use Rattle.iso_store.proofs.nodes.NodesStore.instantiate.Goals as goal

pub returns-clause-cells : goal.returns-clause-cells
returns-clause-cells c t pattern = grows-within _ (c.instantiate.ensures.cells t pattern) (nodes-no-wider t)
