use Rattle.std.proofs.Common.{arith}
use Rattle.std.proofs.lemmas.Bool.{ltb-true}
use Rattle.iso_store.proofs.EndLemmas.{node-end-made, node-made-index}
use Rattle.iso_store.proofs.nodes.NodesPrimitives.end_of_arg.Goals as goal

pub arg-requires-clause-index : goal.arg-requires-clause-index
arg-requires-clause-index c =
    let now = c.args.self.now in
    let size = c.requires.arity in
    let below = c.requires.index in
    node-made-index now.atoms now.nodes.items now.trail.items now.next now.is_store c.args.compound c.args.index (ltb-true _ _ c.requires.word) (omega arith)

pub returns-clause-made : goal.returns-clause-made
returns-clause-made c =
    let now = c.args.self.now in
    node-end-made now.atoms now.nodes.items now.trail.items now.next now.is_store c.walked.result c.walked.ensures.within c.walked.ensures.end
