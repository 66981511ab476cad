use Rattle.std.proofs.Common.{◌≡◌, ap, sym, ◌∙◌}
use Rattle.std.proofs.lemmas.Result.{IfOk-weaker}
use Rattle.iso_model.specs.Terms.TermOf.{term_of}
use Rattle.iso_model.specs.Terms.Trees.{Name}
use Rattle.iso_model.proofs.OnTerms.LeafLemmas.{term_of_atom}
use Rattle.iso_atoms.specs.Texts.{text_at}
use Rattle.iso_store_core.proofs.AtomLemmas.{text-is}
use Rattle.iso_search.proofs.SolutionLists.{comes_for}
use Rattle.iso_search.proofs.solutions.make.Goals as goal

pub returns-in_ok-atom-in-Atom-clause-made : goal.returns-in_ok-atom-in-Atom-clause-made
returns-in_ok-atom-in-Atom-clause-made g c =
    let p = g.S.Store.present c.args.store.now in
    let m = g.S.Store.present c.intern.new.self in
    let q = g.S.Store.present c.atom.new.self in
    let names = g.S.Store.names c.intern.new.self in
    let atom = c.in_ok-atom-in-Atom.atom in
    let named : text_at names atom ≡ c.as_str.result.now = text-is names atom c.as_str.result.now c.in_ok-atom-in-Atom.ensures.place in
    let tree : Name (text_at names atom) ≡ term_of c.args.constant.now = ap Name (named ∙ c.as_str.ensures.value) ∙ sym (ap term_of c.in-Atom.is ∙ term_of_atom c.in-Atom.name) in
    IfOk-weaker c.atom.result _ _ (λ w made. comes_for p m q w (text_at names atom) (term_of c.args.constant.now) c.in_ok-atom-in-Atom.ensures.present tree made) c.atom.ensures.made
