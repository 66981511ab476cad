use Rattle.std.proofs.Common.{sym, ap, ◌∙◌, None}
use Rattle.std.proofs.lemmas.Bool.{ltb-true}
use Rattle.iso_model.specs.Terms.Variables.{occurs}
use Rattle.iso_store.proofs.NodeReads.{end_is_variable}
use Rattle.iso_store.proofs.Apart.{apart}
use Rattle.iso_store.proofs.nodes.NodesPrimitives.is_apart.Goals as goal

pub returns-then-self-place : goal.returns-then-self-place
returns-then-self-place c number is less =
    let store = c.args.self.now.is_store in
    let there = end_is_variable c.args.self.now.atoms _ _ _ store _ c.walked-place.ensures.end number c.walked-place.ensures.within (c.walked-place.ensures.same ∙ is) in
    ap (occurs number) (sym c.walked.ensures.same) ∙ apart c.args.self.now.atoms _ _ _ _ _ store c.args.self.now.leads_back c.if-self-place.true c.walked-place.ensures.within c.walked.result number None (ltb-true _ _ less) there
