use Rattle.iso_store.proofs.NodeSorts.{substitution-is}
use Rattle.iso_store.proofs.nodes.NodesStore.mark.Goals as goal

pub returns-clause-substitution : goal.returns-clause-substitution
returns-clause-substitution c =
    let now = c.args.self.now in
    substitution-is now.atoms now.nodes.items now.trail.items now.next now.is_store
