use Rattle.std.proofs.Common.{ap, sym, ◌∙◌, Some}
use Rattle.iso_store.proofs.NodeReads.{end_is_variable, number_place}
use Rattle.iso_store.proofs.nodes.NodesPrimitives.place.Goals as goal

pub returns-clause-variable : goal.returns-clause-variable
returns-clause-variable c n is =
    let store = c.args.self.now.is_store in
    let there = end_is_variable c.args.self.now.atoms _ _ _ store _ c.walked.ensures.end n c.walked.ensures.within (c.walked.ensures.same ∙ is) in
    ap Some (sym (number_place c.args.self.now.atoms _ _ _ store n c.walked.result there))
