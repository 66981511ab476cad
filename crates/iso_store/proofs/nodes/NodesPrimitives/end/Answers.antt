use Rattle.std.proofs.Common.{ap, ◌∙◌}
use Rattle.iso_store_core.specs.Arguments.{arity}
use Rattle.iso_store.proofs.EndLemmas.{node-end-made}
use Rattle.iso_store.proofs.nodes.NodesPrimitives.end.Goals as goal

pub returns-clause-made : goal.returns-clause-made
returns-clause-made c =
    let now = c.args.self.now in
    node-end-made now.atoms now.nodes.items now.trail.items now.next now.is_store c.walked.result c.walked.ensures.within c.walked.ensures.end ∙ ap arity c.walked.ensures.same
