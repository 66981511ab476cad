use Rattle.iso_plain.proofs.LinkLemmas.{adds_keeps, adds_same}
use Rattle.iso_plain.proofs.linked.LinkedLists.place_run.Goals as goal

pub returns-clause-keeps : goal.returns-clause-keeps
returns-clause-keeps g c =
    adds_keeps c.args.self.now c.push_goal.new.self c.push_goal.ensures.nodes (adds_same c.push_goal.ensures.members)
