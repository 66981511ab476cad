use Rattle.std.proofs.Common.{rules, map, refl, sym, ap, ◌∙◌, Some}
use Rattle.std.proofs.lemmas.Bool.{ltb-true}
use Rattle.std.proofs.lemmas.Int.{to_z-of_z}
use Rattle.std.proofs.lemmas.Option.{slice_get_read}
use mir.Val.{SFits}
use mir.Syntax.{w128}
use Rattle.iso_model.specs.Terms.Trees.{row}
use Rattle.iso_model.specs.Terms.Substitutions.{apply}
use Rattle.iso_store.specs.NodeTerms.{term_at, substitution_of}
use Rattle.iso_store.proofs.NodeReads.{end_variable, shows_integer, shows_atom, shows_compound, row-applied-count}
use Rattle.iso_store.proofs.NodeSorts.{meaning-sorted}
use Rattle.iso_store.proofs.nodes.NodesPrimitives.shape.Goals as goal

pub returns-in-Var-clause-shape : goal.returns-in-Var-clause-shape
returns-in-Var-clause-shape c =
    let there = slice_get_read _ _ _ _ refl c.walked-at.ensures.within c.index.ensures ∙ ap Some c.in-Var.is in
    sym c.walked-at.ensures.same ∙ end_variable c.args.self.now.atoms _ _ _ c.args.self.now.is_store _ c.walked-at.ensures.end _ _ there

pub returns-in-Int-clause-shape : goal.returns-in-Int-clause-shape
returns-in-Int-clause-shape c =
    let there = slice_get_read _ _ _ _ refl c.walked-at.ensures.within c.index.ensures ∙ ap Some c.in-Int.is in
    let fits : SFits w128 c.in-Int.value = search rules in
    rw (to_z-of_z w128 c.in-Int.value fits) (sym c.walked-at.ensures.same ∙ shows_integer c.args.self.now.atoms _ _ _ c.args.self.now.is_store _ _ there)

pub returns-in-Atom-clause-shape : goal.returns-in-Atom-clause-shape
returns-in-Atom-clause-shape c =
    let there = slice_get_read _ _ _ _ refl c.walked-at.ensures.within c.index.ensures ∙ ap Some c.in-Atom.is in
    (c.args.self.now.is_store.atom _ _ there, sym c.walked-at.ensures.same ∙ shows_atom c.args.self.now.atoms _ _ _ c.args.self.now.is_store _ _ there)

pub returns-in-Compound-clause-shape : goal.returns-in-Compound-clause-shape
returns-in-Compound-clause-shape c =
    let there = slice_get_read _ _ _ _ refl c.walked-at.ensures.within c.index.ensures ∙ ap Some c.in-Compound.is in
    let cs = c.args.self.now.nodes.items in
    let s = substitution_of c.args.self.now.atoms cs c.args.self.now.trail.items in
    let ts = apply s (row (map (term_at c.args.self.now.atoms cs) c.in-Compound.arguments.items)) in
    let is = sym c.walked-at.ensures.same ∙ shows_compound c.args.self.now.atoms _ _ _ c.args.self.now.is_store _ _ _ there in
    let size = row-applied-count s (term_at c.args.self.now.atoms cs) c.in-Compound.arguments.items in
    let whole = c.in-Compound.arguments.ok.0 in
    (c.args.self.now.is_store.name _ _ _ there, ts, is, size ∙ sym (c.len.ensures ∙ whole))

pub returns-in-Var-clause-term : goal.returns-in-Var-clause-term
returns-in-Var-clause-term c = meaning-sorted c.args.self.now.atoms _ _ _ c.args.self.now.is_store _ (ltb-true _ _ c.requires)

pub returns-in-Int-clause-term : goal.returns-in-Int-clause-term
returns-in-Int-clause-term c = meaning-sorted c.args.self.now.atoms _ _ _ c.args.self.now.is_store _ (ltb-true _ _ c.requires)

pub returns-in-Atom-clause-term : goal.returns-in-Atom-clause-term
returns-in-Atom-clause-term c = meaning-sorted c.args.self.now.atoms _ _ _ c.args.self.now.is_store _ (ltb-true _ _ c.requires)

pub returns-in-Compound-clause-term : goal.returns-in-Compound-clause-term
returns-in-Compound-clause-term c = meaning-sorted c.args.self.now.atoms _ _ _ c.args.self.now.is_store _ (ltb-true _ _ c.requires)
