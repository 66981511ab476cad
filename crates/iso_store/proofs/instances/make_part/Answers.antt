use Rattle.std.proofs.Common.{rules, map, ap}
use Rattle.std.proofs.lemmas.Int.{to_z-of_z}
use mir.Val.{SFits}
use mir.Syntax.{w128}
use Rattle.iso_atoms.specs.Texts.{text_at}
use Rattle.iso_model.specs.Terms.Trees.{Integer, Name}
use Rattle.iso_store_core.specs.Patterns.{part_step, at_places}
use Rattle.iso_store.proofs.InstanceLemmas.{made-leaf}
use Rattle.iso_store.proofs.instances.make_part.Goals as goal

pub returns-in_ok-push-in-Integer-clause-gathers :
    goal.returns-in_ok-push-in-Integer-clause-gathers
returns-in_ok-push-in-Integer-clause-gathers g c =
    let names = g.S.Primitives.names c.args.store.now in
    let s = at_places (map (g.S.Primitives.present c.args.store.now).term c.args.variables.now) in
    let fits : SFits w128 c.in-Integer.value = search rules in
    let made = rw (to_z-of_z w128 c.in-Integer.value fits) at c.in_ok-word-in-Integer.ensures.made in
    made-leaf c.args.words.now.items _ _ c.requires.words (Integer c.in-Integer.value) _ made c.in_ok-push-in-Integer.ensures.items (ap (part_step names s) c.in-Integer.is)

pub returns-in_ok-push-in-Atom-clause-gathers : goal.returns-in_ok-push-in-Atom-clause-gathers
returns-in_ok-push-in-Atom-clause-gathers g c =
    let names = g.S.Primitives.names c.args.store.now in
    let s = at_places (map (g.S.Primitives.present c.args.store.now).term c.args.variables.now) in
    made-leaf c.args.words.now.items _ _ c.requires.words (Name (text_at names c.in-Atom.name)) _ c.in_ok-word-in-Atom.ensures.made c.in_ok-push-in-Atom.ensures.items (ap (part_step names s) c.in-Atom.is)
