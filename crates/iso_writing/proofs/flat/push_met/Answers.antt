use Rattle.std.proofs.Common.{rules, ◌≡◌, ◌<◌, ◌+◌, length, Some, slice_get, refl, sym, subst, ◌∙◌}
use Rattle.std.proofs.lemmas.Int.{to_z-of_z}
use mir.Val.{SFits}
use Rattle.std.specs.Int.{w128}
use Rattle.std.proofs.lemmas.Option.{slice_get_read}
use Rattle.iso_atoms.specs.Texts.{text_at}
use Rattle.iso_model.specs.Terms.Trees as trees
use Rattle.iso_code.specs.declared.operands.Operand.TheVariants.{Old, Integer, Atom, Inner}
use Rattle.iso_code.specs.Standing.{Free}
use Rattle.iso_writing.proofs.VariableLemmas.{variable_makes, adds_makes}
use Rattle.iso_writing.proofs.FlatLemmas.{on_ok, old_holds, inner_holds}
use Rattle.iso_writing.proofs.KnownLemmas.{pushes_one}
use Rattle.iso_writing.proofs.flat.push_met.Goals as goal

pub push_word-requires : goal.push_word-requires
push_word-requires g c =
    let inside : c.in-Old.variable < length c.args.environment.now = search rules in
    let w = c.index-environment-variable.result in
    old_holds w c.in-Old.variable (rw c.in-Old.is at c.requires.stands) (slice_get_read c.args.environment.now (length c.args.environment.now) c.in-Old.variable w refl inside c.index-environment-variable.is)

pub push_word-requires-in-Inner : goal.push_word-requires-in-Inner
push_word-requires-in-Inner g c =
    let inside : c.in-Inner.compound < length c.args.compounds.now = search rules in
    let w = c.index-compounds-compound.result in
    inner_holds w c.in-Inner.compound (rw c.in-Inner.is at c.requires.stands) (slice_get_read c.args.compounds.now (length c.args.compounds.now) c.in-Inner.compound w refl inside c.index-compounds-compound.is)

pub returns-in_ok-environment-in-New-clause-makes : goal.returns-in_ok-environment-in-New-clause-makes
returns-in_ok-environment-in-New-clause-makes g c =
    let inside : c.in-New.variable < length c.args.environment.now = search rules in
    rw c.in-New.is (variable_makes (g.S.Store.present c.args.store.now) (g.S.Store.present c.push_variable.new.self) (g.met.S.Store.untouched c.args.store.now)
    c.args.first c.in-New.variable c.in_ok-environment-in-New.field-0 c.args.environment.now inside c.in_ok-environment-in-New.ensures.made c.in_ok-environment-in-New.ensures.numbers)

pub returns-in_ok-environment-in-New-clause-pushed : goal.returns-in_ok-environment-in-New-clause-pushed
returns-in_ok-environment-in-New-clause-pushed g c =
    let inside : c.in-New.variable < length c.args.environment.now = search rules in
    rw c.in-New.is (λ arguments t met state stands begins marks.
    (let free : Free (g.S.Store.present c.args.store.now) state.subst (c.args.first + c.in-New.variable) =
    subst (λ n. Free (g.S.Store.present c.args.store.now) state.subst (n + c.in-New.variable)) begins
    (stands.free c.in-New.variable (subst (λ n. c.in-New.variable < n) stands.room inside) marks.0) in
    record {
      term = trees.Variable (c.args.first + c.in-New.variable);
      comes = c.in_ok-environment-in-New.ensures.pushed;
      same = (g.met.S.Store.untouched c.args.store.now (c.args.first + c.in-New.variable) free.taken).substitution ∙ sym free.alone;
    }))

pub returns-in-Old-clause-makes : goal.returns-in-Old-clause-makes
returns-in-Old-clause-makes g c =
    on_ok c.push_word.result (rw c.in-Old.is (adds_makes (Old c.in-Old.variable) c.args.first c.args.environment.now (λ met. refl)
    (record { words = c.push_word.ensures.words; substitution = c.push_word.ensures.substitution; numbers = c.push_word.ensures.numbers })))

pub returns-in-Old-clause-pushed : goal.returns-in-Old-clause-pushed
returns-in-Old-clause-pushed g c =
    let inside : c.in-Old.variable < length c.args.environment.now = search rules in
    let w = c.index-environment-variable.result in
    let at : slice_get c.args.environment.now c.in-Old.variable ≡ Some w =
    slice_get_read c.args.environment.now (length c.args.environment.now) c.in-Old.variable w refl inside c.index-environment-variable.is in
    rw c.in-Old.is (λ arguments t met state stands begins marks.
    pushes_one g.S.Cells.pushed _ _ _ _ c.push_word.result ((g.S.Store.present c.args.store.now).term w) _ c.push_word.ensures.pushed (rw begins at (stands.known.variables c.in-Old.variable w marks.0 at).same))

pub returns-in-Integer-clause-makes : goal.returns-in-Integer-clause-makes
returns-in-Integer-clause-makes g c =
    on_ok c.push_integer.result (rw c.in-Integer.is (adds_makes (Integer c.in-Integer.value) c.args.first c.args.environment.now (λ met. refl)
    (record { words = c.push_integer.ensures.words; substitution = c.push_integer.ensures.substitution; numbers = c.push_integer.ensures.numbers })))

pub returns-in-Integer-clause-pushed : goal.returns-in-Integer-clause-pushed
returns-in-Integer-clause-pushed g c =
    let fits : SFits w128 c.in-Integer.value = search rules in
    let pushed = rw (to_z-of_z w128 c.in-Integer.value fits) at c.push_integer.ensures.pushed in
    rw c.in-Integer.is (λ arguments t met state stands begins marks.
    pushes_one g.S.Cells.pushed _ _ _ _ c.push_integer.result (trees.Integer c.in-Integer.value) _ pushed refl)

pub returns-in-Atom-clause-makes : goal.returns-in-Atom-clause-makes
returns-in-Atom-clause-makes g c =
    on_ok c.push_atom.result (rw c.in-Atom.is (adds_makes (Atom c.in-Atom.name) c.args.first c.args.environment.now (λ met. refl)
    (record { words = c.push_atom.ensures.words; substitution = c.push_atom.ensures.substitution; numbers = c.push_atom.ensures.numbers })))

pub returns-in-Atom-clause-pushed : goal.returns-in-Atom-clause-pushed
returns-in-Atom-clause-pushed g c =
    rw c.in-Atom.is (λ arguments t met state stands begins marks.
    pushes_one g.S.Cells.pushed _ _ _ _ c.push_atom.result (trees.Name (text_at (g.S.Store.names c.args.store.now) c.in-Atom.name)) _ c.push_atom.ensures.pushed refl)

pub returns-in-Inner-clause-makes : goal.returns-in-Inner-clause-makes
returns-in-Inner-clause-makes g c =
    on_ok c.push_word-in-Inner.result (rw c.in-Inner.is (adds_makes (Inner c.in-Inner.compound) c.args.first c.args.environment.now (λ met. refl)
    (record { words = c.push_word-in-Inner.ensures.words; substitution = c.push_word-in-Inner.ensures.substitution; numbers = c.push_word-in-Inner.ensures.numbers })))

pub returns-in-Inner-clause-pushed : goal.returns-in-Inner-clause-pushed
returns-in-Inner-clause-pushed g c =
    let inside : c.in-Inner.compound < length c.args.compounds.now = search rules in
    let w = c.index-compounds-compound.result in
    let at : slice_get c.args.compounds.now c.in-Inner.compound ≡ Some w =
    slice_get_read c.args.compounds.now (length c.args.compounds.now) c.in-Inner.compound w refl inside c.index-compounds-compound.is in
    rw c.in-Inner.is (λ arguments t met state stands begins marks.
    pushes_one g.S.Cells.pushed _ _ _ _ c.push_word-in-Inner.result ((g.S.Store.present c.args.store.now).term w) _ c.push_word-in-Inner.ensures.pushed (stands.known.compounds c.in-Inner.compound w at).same)
