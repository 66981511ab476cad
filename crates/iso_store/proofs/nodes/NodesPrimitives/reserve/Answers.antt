use Rattle.std.proofs.Common.{arith}
use Rattle.iso_store.proofs.NodeMade.{untaken}
use Rattle.iso_store.proofs.nodes.NodesPrimitives.reserve.Goals as goal

pub returns-clause-free : goal.returns-clause-free
returns-clause-free c n high =
    untaken n _ (λ w m b h. let below = c.args.self.now.is_store.numbered w m b h in omega arith)
