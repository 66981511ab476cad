use Rattle.iso_store.proofs.MeetingLemmas.{places-kept, met-kept}
use Rattle.iso_store.proofs.nodes.NodesPrimitives.meet_ends.Goals as goal

pub returns-clause-met : goal.returns-clause-met
returns-clause-met c =
    let meets = c.meet.ensures c.args.self.now.atoms _ _ c.shape.ensures.each_once c.shape.ensures.shape c.shape-2.ensures.shape c.shape.ensures.term c.shape-2.ensures.term in
    met-kept _ _ _ c.meet.result meets c.shape.ensures.term c.shape-2.ensures.term

pub returns-clause-places : goal.returns-clause-places
returns-clause-places c = places-kept _ _
