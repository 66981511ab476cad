use Rattle.std.proofs.lemmas.Bool.{ltb-true}
use Rattle.iso_store.proofs.NodeSorts.{meaning-sorted, sorted-out}
use Rattle.iso_store.proofs.nodes.NodesStore.copy_out.Goals as goal

pub returns-clause-well_formed : goal.returns-clause-well_formed
returns-clause-well_formed c =
    sorted-out _ (meaning-sorted c.args.self.now.atoms _ _ _ c.args.self.now.is_store _ (ltb-true _ _ c.requires)) c.copy_out.result c.copy_out.ensures
