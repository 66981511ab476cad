use Rattle.std.proofs.Common.{◌≡◌, IfOk, ap, sym, ◌∙◌, subst₂}
use Rattle.iso_model.specs.Terms.TermOf.{term_of}
use Rattle.iso_model.specs.Terms.Trees.{Tree, Name}
use Rattle.iso_model.specs.Terms.Copies.{copy_from}
use Rattle.iso_model.proofs.OnTerms.LeafLemmas.{term_of_atom}
use Rattle.iso_atoms.specs.Texts.{text_at}
use Rattle.iso_store_core.proofs.AtomLemmas.{text-is}
use Rattle.iso_store_core.specs.Presents.{Makes, Present}
use Rattle.iso_lib_core.proofs.copies.copied.Goals as goal

pub returns-in_ok-atom-in-Atom-clause-made : goal.returns-in_ok-atom-in-Atom-clause-made
returns-in_ok-atom-in-Atom-clause-made g c =
    let p = g.S.Store.present c.args.store.now in
    let names = g.S.Store.names c.intern.new.self in
    let atom = c.in_ok-atom-in-Atom.atom in
    let named : text_at names atom ≡ c.as_str.result.now = text-is names atom c.as_str.result.now c.in_ok-atom-in-Atom.ensures.place in
    let tree : Name (text_at names atom) ≡ copy_from (term_of c.args.term.now) p.next =
    sym (ap (λ t. copy_from t p.next) (ap term_of c.in-Atom.is ∙ term_of_atom c.in-Atom.name) ∙ ap Name (sym (named ∙ c.as_str.ensures.value))) in
    subst₂ (λ (q : Present _) (t : Tree). IfOk c.atom.result (λ w. Makes q (g.S.Store.present c.atom.new.self) w t)) c.in_ok-atom-in-Atom.ensures.present tree c.atom.ensures.made
