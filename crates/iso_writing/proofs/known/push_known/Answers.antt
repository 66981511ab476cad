use Rattle.std.proofs.Common.{rules, ◌<◌, length, refl}
use Rattle.std.specs.Int.{w128}
use Rattle.std.proofs.lemmas.Int.{to_z-of_z}
use mir.Val.{SFits}
use Rattle.iso_model.specs.Terms.Trees.{Integer, Name}
use Rattle.iso_atoms.specs.Texts.{text_at}
use Rattle.iso_writing.proofs.KnownLemmas.{pushes_one, push_comes, place_is, inner_is}
use Rattle.iso_writing.proofs.known.push_known.Goals as goal

pub returns-in-Integer-clause-comes : goal.returns-in-Integer-clause-comes
returns-in-Integer-clause-comes g c = push_comes g.S.Cells.pushed c.args.store.now c.push_integer.new.self c.push_integer.result _ c.push_integer.ensures.pushed

pub returns-in-Atom-clause-comes : goal.returns-in-Atom-clause-comes
returns-in-Atom-clause-comes g c = push_comes g.S.Cells.pushed c.args.store.now c.push_atom.new.self c.push_atom.result _ c.push_atom.ensures.pushed

pub returns-in-Inner-clause-comes : goal.returns-in-Inner-clause-comes
returns-in-Inner-clause-comes g c = push_comes g.S.Cells.pushed c.args.store.now c.push_word.new.self c.push_word.result _ c.push_word.ensures.pushed

pub returns-in-New-clause-comes : goal.returns-in-New-clause-comes
returns-in-New-clause-comes g c = push_comes g.S.Cells.pushed c.args.store.now c.push_word-in-New.new.self c.push_word-in-New.result _ c.push_word-in-New.ensures.pushed

pub returns-in-Integer-clause-pushed : goal.returns-in-Integer-clause-pushed
returns-in-Integer-clause-pushed g c own by next low met rs known is_met =
    let fits : SFits w128 c.in-Integer.value = search rules in
    let pushed = rw (to_z-of_z w128 c.in-Integer.value fits) at c.push_integer.ensures.pushed in
    rw c.in-Integer.is (pushes_one g.S.Cells.pushed c.args.store.now c.push_integer.new.self own by c.push_integer.result (Integer c.in-Integer.value) (Integer c.in-Integer.value) pushed refl)

pub returns-in-Atom-clause-pushed : goal.returns-in-Atom-clause-pushed
returns-in-Atom-clause-pushed g c own by next low met rs known is_met =
    let name = text_at (g.S.Store.names c.args.store.now) c.in-Atom.name in
    rw c.in-Atom.is (pushes_one g.S.Cells.pushed c.args.store.now c.push_atom.new.self own by c.push_atom.result (Name name) (Name name) c.push_atom.ensures.pushed refl)

pub returns-in-Inner-clause-pushed : goal.returns-in-Inner-clause-pushed
returns-in-Inner-clause-pushed g c own by next low met rs known is_met =
    let p = g.S.Store.present c.args.store.now in
    let w = c.index-compounds-compound.result in
    let inside : c.in-Inner.compound < length c.args.compounds.now = search rules in
    let is = inner_is p own by next low met c.args.environment.now c.args.compounds.now rs known (g.S.Store.names c.args.store.now) c.in-Inner.compound w inside c.index-compounds-compound.is in
    rw c.in-Inner.is (pushes_one g.S.Cells.pushed c.args.store.now c.push_word.new.self own by c.push_word.result (p.term w) _ c.push_word.ensures.pushed is.same)

pub returns-in-New-clause-pushed : goal.returns-in-New-clause-pushed
returns-in-New-clause-pushed g c own by next low met rs known is_met =
    let p = g.S.Store.present c.args.store.now in
    let w = c.index-environment-variable.result in
    let inside : c.in-New.variable < length c.args.environment.now = search rules in
    let is = place_is p own by next low met c.args.environment.now c.args.compounds.now rs known (g.S.Store.names c.args.store.now) c.in-New.variable w c.args.operand.now inside c.index-environment-variable.is c.in-New.is is_met in
    pushes_one g.S.Cells.pushed c.args.store.now c.push_word-in-New.new.self own by c.push_word-in-New.result (p.term w) _ c.push_word-in-New.ensures.pushed is.same
