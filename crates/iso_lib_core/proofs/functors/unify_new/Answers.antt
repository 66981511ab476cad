use Rattle.std.proofs.Common.{◌≡◌, sym, ap, subst, ◌∙◌, true, IfOk}
use Rattle.iso_atoms.specs.Texts.{text_at}
use Rattle.iso_model.specs.Terms.Trees.{Apply, arities_fit}
use Rattle.iso_model.specs.Terms.TermOf.{term_of}
use Rattle.iso_model.specs.Terms.Arguments.{variables_from}
use Rattle.iso_store_core.specs.Presents.{meaning}
use Rattle.iso_store_core.proofs.AtomLemmas.{text-is}
use Rattle.iso_lib_core.specs.Replies.{MeetsCopy}
use Rattle.iso_lib_core.proofs.PartLemmas.{new_fits}
use Rattle.iso_lib_core.proofs.functors.unify_new.Goals as goal

pub unify_copy-requires-clause-fits : goal.unify_copy-requires-clause-fits
unify_copy-requires-clause-fits g c =
    ap arities_fit c.in_ok-made.ensures ∙ new_fits c.text.result.now c.args.count c.requires.some c.requires.few

pub returns-clause-unified : goal.returns-clause-unified
returns-clause-unified g c =
    let p = g.S.Store.present c.args.store.now in
    let q = g.S.Store.present c.unify_copy.new.store in
    let text = text-is (g.S.Store.names c.args.store.now) c.args.name c.text.result.now c.text.ensures in
    let made : term_of c.in_ok-made.made ≡ Apply (text_at (g.S.Store.names c.args.store.now) c.args.name) (variables_from 0 c.args.count) = c.in_ok-made.ensures ∙ ap (λ f. Apply f (variables_from 0 c.args.count)) (sym text) in
    subst (λ t. IfOk c.unify_copy.result (MeetsCopy p q (meaning p c.args.word) t)) made c.unify_copy.ensures.unified
