use Rattle.std.proofs.Common.{arith}
use Rattle.iso_store.proofs.CellCounts.{nodes-no-wider}
use Rattle.iso_store.proofs.Gathering.{grows-within}
use Rattle.iso_store.proofs.NodeSorts.{substitution-is}
use Rattle.iso_store.proofs.nodes.NodesStore.unify_head.Goals as goal

pub returns-clause-cells : goal.returns-clause-cells
returns-clause-cells c t pattern = grows-within _ (c.unify_head.ensures.cells t pattern) (omega (arith, nodes-no-wider t))

pub returns-clause-substitution : goal.returns-clause-substitution
returns-clause-substitution c =
    let now = c.unify_head.new.store in
    substitution-is now.atoms now.nodes.items now.trail.items now.next now.is_store
