use Rattle.std.proofs.Common.{◌∙◌}
use Rattle.iso_store.proofs.NodeReads.{step_same}
use Rattle.iso_store.proofs.nodes.Nodes.walked.Goals as goal

pub loop-next-preserved : goal.loop-next-preserved
loop-next-preserved c =
    let store = c.args.self.now.is_store in
    let there = c.in-Some.ensures in
    record {
      within = store.target _ _ _ there.1;
      same = step_same c.args.self.now.atoms _ _ _ store _ _ _ there.1 ∙ c.loop-next.invariant.same;
    }
