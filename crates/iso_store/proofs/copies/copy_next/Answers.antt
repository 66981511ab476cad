use Rattle.std.proofs.Common.{◌++◌, ◌∷◌, [], map, refl, ap, sym, ◌∙◌}
use Rattle.std.proofs.lemmas.List.{map-append}
use Rattle.iso_model.specs.Terms.Trees.{Name}
use Rattle.iso_model.specs.Terms.TermOf.{term_of}
use Rattle.iso_model.specs.Terms.Building.{with_steps}
use Rattle.iso_atoms.specs.Texts.{text_at}
use Rattle.iso_store_core.specs.Presents.{meaning}
use Rattle.iso_store.specs.Tasks.{step_of, steps_of}
use Rattle.iso_store_core.proofs.AtomLemmas.{text-is}
use Rattle.iso_model.proofs.OnTerms.LeafLemmas.{term_of_atom}
use Rattle.iso_store.proofs.TaskLemmas.{steps-compound, load-compound}
use Rattle.iso_store.proofs.copies.copy_next.Goals as goal

pub returns-in_ok-push-in-Atom-clause-steps : goal.returns-in_ok-push-in-Atom-clause-steps
returns-in_ok-push-in-Atom-clause-steps g c =
    let p = g.S.Primitives.present c.args.store.now in
    let names = g.S.Primitives.names c.args.store.now in
    let copies = c.args.copies.now.items in
    let text = text-is names c.in-Atom.name _ c.text.ensures in
    let atom = term_of_atom c.in_ok-from_str-in-Atom.field-0 ∙ ap Name (c.in_ok-from_str-in-Atom.ensures.ok ∙ sym text) ∙ sym c.in-Atom.ensures.shape.1 in
    ap (λ ts. with_steps (steps_of p names c.args.tasks.now.items) (map term_of ts)) c.in_ok-push-in-Atom.ensures.items
    ∙ ap (with_steps (steps_of p names c.args.tasks.now.items)) (map-append term_of copies _ ∙ ap (λ t. map term_of copies ++ t ∷ []) atom)

pub returns-in_ok-push-in-Compound-2-clause-steps :
    goal.returns-in_ok-push-in-Compound-2-clause-steps
returns-in_ok-push-in-Compound-2-clause-steps g c =
    let p = g.S.Primitives.present c.args.store.now in
    let names = g.S.Primitives.names c.args.store.now in
    let here = c.in-Compound.ensures.shape in
    steps-compound (step_of p names) c.args.tasks.now.items _ _ _ _ (meaning p c.args.word) (text_at names c.in-Compound.name) c.in-Compound.count here.1 here.2 here.3 c.in-Compound.ensures.term refl refl c.in_ok-push-in-Compound.ensures.items c.in_ok-push-in-Compound-2.ensures.items
    (map term_of c.args.copies.now.items)

pub returns-in_ok-push-in-Compound-2-clause-load :
    goal.returns-in_ok-push-in-Compound-2-clause-load
returns-in_ok-push-in-Compound-2-clause-load g c =
    let p = g.S.Primitives.present c.args.store.now in
    let names = g.S.Primitives.names c.args.store.now in
    let here = c.in-Compound.ensures.shape in
    load-compound (step_of p names) c.args.tasks.now.items _ _ _ _ (meaning p c.args.word) (text_at names c.in-Compound.name) c.in-Compound.count here.1 here.2 here.3 c.in-Compound.ensures.term refl refl c.in_ok-push-in-Compound.ensures.items c.in_ok-push-in-Compound-2.ensures.items
