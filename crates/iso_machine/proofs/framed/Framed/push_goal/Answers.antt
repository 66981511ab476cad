use Rattle.std.proofs.Common.{arith}
use Rattle.iso_machine.proofs.FrameLemmas.{run_pushed}
use Rattle.iso_machine.proofs.framed.Framed.push_goal.Goals as goal

pub returns-clause-placed : goal.returns-clause-placed
returns-clause-placed g c =
    λ p holds. run_pushed p c.args.goal c.args.self.now.nodes.items c.push.new.self.items c.len-place.result
    c.in_ok-push.ensures.items (omega arith) holds
