use Rattle.iso_store.proofs.CellCounts.{nodes-within}
use Rattle.iso_store.proofs.Gathering.{grows-within}
use Rattle.iso_store.proofs.nodes.NodesStore.renew.Goals as goal

pub returns-clause-cells : goal.returns-clause-cells
returns-clause-cells c t pattern = grows-within _ (c.renew.ensures.cells t pattern) (nodes-within t)
