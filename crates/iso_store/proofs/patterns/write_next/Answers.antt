use Rattle.std.proofs.Common.{rules, map, [], ◌∷◌, ◌++◌, ap, sym, ◌∙◌}
use Rattle.std.proofs.lemmas.Int.{to_z-of_z}
use mir.Val.{SFits}
use mir.Syntax.{w128}
use Rattle.std.proofs.lemmas.Option.{slice_get_within}
use Rattle.std.proofs.lemmas.List.{length-map}
use Rattle.iso_model.specs.Terms.Trees.{Integer, Name}
use Rattle.iso_model.specs.Terms.TermOf.{term_of}
use Rattle.iso_model.specs.Terms.Substitutions.{apply}
use Rattle.iso_model.specs.Terms.Building.{Give, Gather}
use Rattle.iso_model.proofs.OnTerms.CopyingLemmas.{on_ok_by}
use Rattle.iso_model.proofs.OnTerms.RowLemmas.{term_of_compound}
use Rattle.iso_store.specs.Writing.{placed_by, terms_left}
use Rattle.iso_store_core.proofs.AtomLemmas.{text-is}
use Rattle.iso_model.proofs.OnTerms.LeafLemmas.{term_of_variable, term_of_integer, term_of_atom}
use Rattle.iso_store.proofs.PatternLemmas.{left-more, named-more, written-leaf, written-compound, size-compound}
use Rattle.iso_store.proofs.patterns.write_next.Goals as goal

pub returns-in_ok-push-in-Var-clause-written : goal.returns-in_ok-push-in-Var-clause-written
returns-in_ok-push-in-Var-clause-written g c =
    let s = placed_by c.args.places in
    let whole = ap term_of c.in-Var.is ∙ term_of_variable c.in-Var.number in
    let step = ap (λ t. Give (t ∷ [])) (sym c.place_of.ensures ∙ ap (apply s) (sym whole)) in
    written-leaf _ _ (λ a text h. h) c.args.parts.now.items _ _ c.requires.named c.in_ok-push-in-Var.ensures.items s (terms_left c.args.left.now.items) (term_of c.args.term.now) step

pub returns-in_ok-push-in-Int-clause-written : goal.returns-in_ok-push-in-Int-clause-written
returns-in_ok-push-in-Int-clause-written g c =
    let s = placed_by c.args.places in
    let whole = ap term_of c.in-Int.is ∙ term_of_integer c.in-Int.value in
    let fits : SFits w128 c.in-Int.value = search rules in
    let step = ap (λ t. Give (t ∷ [])) (ap Integer (to_z-of_z w128 c.in-Int.value fits) ∙ ap (apply s) (sym whole)) in
    written-leaf _ _ (λ a text h. h) c.args.parts.now.items _ _ c.requires.named c.in_ok-push-in-Int.ensures.items s (terms_left c.args.left.now.items) (term_of c.args.term.now) step

pub returns-in_ok-push-in-Atom-clause-named : goal.returns-in_ok-push-in-Atom-clause-named
returns-in_ok-push-in-Atom-clause-named g c =
    let within = slice_get_within _ c.in_ok-atom-in-Atom.atom _ c.in_ok-atom-in-Atom.ensures.place in
    named-more _ _ c.in_ok-atom-in-Atom.ensures.names c.args.parts.now.items _ _ c.requires.named c.in_ok-push-in-Atom.ensures.items within

pub returns-in_ok-push-in-Atom-clause-written : goal.returns-in_ok-push-in-Atom-clause-written
returns-in_ok-push-in-Atom-clause-written g c =
    let s = placed_by c.args.places in
    let text = text-is _ c.in_ok-atom-in-Atom.atom _ c.in_ok-atom-in-Atom.ensures.place ∙ c.as_str.ensures.value in
    let whole = ap term_of c.in-Atom.is ∙ term_of_atom c.in-Atom.name in
    let step = ap (λ t. Give (t ∷ [])) (ap Name text ∙ ap (apply s) (sym whole)) in
    written-leaf _ _ c.in_ok-atom-in-Atom.ensures.names c.args.parts.now.items _ _ c.requires.named c.in_ok-push-in-Atom.ensures.items s (terms_left c.args.left.now.items) (term_of c.args.term.now) step

pub returns-in_ok-push-in-Compound-clause-named : goal.returns-in_ok-push-in-Compound-clause-named
returns-in_ok-push-in-Compound-clause-named g c =
    let within = slice_get_within _ c.in_ok-atom-in-Compound.atom _ c.in_ok-atom-in-Compound.ensures.place in
    on_ok_by c.leave.result c.leave.ensures
    (λ _. named-more _ _ c.in_ok-atom-in-Compound.ensures.names c.args.parts.now.items _ _ c.requires.named c.in_ok-push-in-Compound.ensures.items within)

pub returns-in_ok-push-in-Compound-clause-written :
    goal.returns-in_ok-push-in-Compound-clause-written
returns-in_ok-push-in-Compound-clause-written g c =
    let us = map term_of c.in-Compound.arguments.items in
    let left = terms_left c.args.left.now.items in
    let whole = ap term_of c.in-Compound.is ∙ term_of_compound c.in-Compound.name c.in-Compound.arguments in
    let text = text-is _ c.in_ok-atom-in-Compound.atom _ c.in_ok-atom-in-Compound.ensures.place ∙ c.as_str-in-Compound.ensures.value in
    let step = ap (λ a. Gather a c.len.result) text in
    let many = c.len.ensures ∙ c.in-Compound.arguments.ok.0 ∙ sym (length-map c.in-Compound.arguments.items term_of) in
    on_ok_by c.leave.result c.leave.ensures
    (λ more. written-compound _ _ c.in_ok-atom-in-Compound.ensures.names c.args.parts.now.items _ _ c.requires.named c.in_ok-push-in-Compound.ensures.items (term_of c.args.term.now) _ c.len.result us whole step many
    (placed_by c.args.places) left _ (left-more c.args.left.now.items c.leave.new.left.items _ more ∙ ap (λ ts. left ++ map term_of ts) c.as_slice.ensures.value))

pub returns-in_ok-push-in-Compound-clause-load : goal.returns-in_ok-push-in-Compound-clause-load
returns-in_ok-push-in-Compound-clause-load g c =
    let us = map term_of c.in-Compound.arguments.items in
    let left = terms_left c.args.left.now.items in
    let whole = ap term_of c.in-Compound.is ∙ term_of_compound c.in-Compound.name c.in-Compound.arguments in
    let text = text-is _ c.in_ok-atom-in-Compound.atom _ c.in_ok-atom-in-Compound.ensures.place ∙ c.as_str-in-Compound.ensures.value in
    let step = ap (λ a. Gather a c.len.result) text in
    let many = c.len.ensures ∙ c.in-Compound.arguments.ok.0 ∙ sym (length-map c.in-Compound.arguments.items term_of) in
    on_ok_by c.leave.result c.leave.ensures
    (λ more. size-compound _ _ c.in_ok-atom-in-Compound.ensures.names c.args.parts.now.items _ _ c.requires.named c.in_ok-push-in-Compound.ensures.items (term_of c.args.term.now) _ c.len.result us whole step many left _
    (left-more c.args.left.now.items c.leave.new.left.items _ more ∙ ap (λ ts. left ++ map term_of ts) c.as_slice.ensures.value))
