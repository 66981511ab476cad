use Rattle.std.proofs.Common.{rules, ◌<◌, length, refl}
use Rattle.std.specs.Int.{w128}
use Rattle.std.proofs.lemmas.Int.{to_z-of_z}
use mir.Val.{SFits}
use Rattle.std.proofs.lemmas.Option.{slice_get_read}
use Rattle.iso_reading.proofs.OperandLemmas.{if_ok_by, old_holds, new_reads, old_reads, integer_reads, atom_reads, inner_reads}
use Rattle.iso_reading.proofs.reading.read_any.Goals as goal

pub unify-requires-clause-second : goal.unify-requires-clause-second
unify-requires-clause-second g c =
    let inside : c.in-Old.variable < length c.args.environment.now = search rules in
    old_holds (g.S.Store.present c.args.store.now) c.args.environment.now c.args.compounds.now c.requires.ready.0 c.in-Old.variable c.index-environment-variable.result
    (rw c.in-Old.is at c.requires.ready.1) (slice_get_read c.args.environment.now _ c.in-Old.variable c.index-environment-variable.result refl inside c.index-environment-variable.is)

pub returns-in-New-clause-reads : goal.returns-in-New-clause-reads
returns-in-New-clause-reads g c =
    let inside : c.in-New.place < length c.args.environment.now = search rules in
    rw c.in-New.is (new_reads (g.S.Store.names c.args.store.now) (g.S.Store.present c.args.store.now) (g.S.Store.present c.args.store.now) (g.met.S.Store.untouched c.args.store.now)
    c.args.environment.now c.args.compounds.now c.args.argument c.in-New.place inside)

pub returns-in-Old-clause-reads : goal.returns-in-Old-clause-reads
returns-in-Old-clause-reads g c =
    let inside : c.in-Old.variable < length c.args.environment.now = search rules in
    if_ok_by c.unify.result c.unify.ensures.unified (λ answer h. rw c.in-Old.is (
    old_reads (g.S.Store.names c.args.store.now) (g.S.Store.present c.args.store.now) (g.S.Store.present c.unify.new.self) (g.met.S.Store.untouched c.args.store.now)
    c.args.environment.now c.args.compounds.now c.args.argument c.in-Old.variable c.index-environment-variable.result answer
    (slice_get_read c.args.environment.now _ c.in-Old.variable c.index-environment-variable.result refl inside c.index-environment-variable.is) h))

pub returns-in-Integer-clause-reads : goal.returns-in-Integer-clause-reads
returns-in-Integer-clause-reads g c =
    let fits : SFits w128 c.in-Integer.integer = search rules in
    let unified = rw (to_z-of_z w128 c.in-Integer.integer fits) at c.meet_integer.ensures.unified in
    if_ok_by c.meet_integer.result unified (λ answer h. rw c.in-Integer.is (
    integer_reads (g.S.Store.names c.args.store.now) (g.S.Store.present c.args.store.now) (g.S.Store.present c.meet_integer.new.self) (g.met.S.Store.untouched c.args.store.now)
    c.args.environment.now c.args.compounds.now c.args.argument c.in-Integer.integer answer h))

pub returns-in-Atom-clause-reads : goal.returns-in-Atom-clause-reads
returns-in-Atom-clause-reads g c =
    if_ok_by c.meet_atom.result c.meet_atom.ensures.unified (λ answer h. rw c.in-Atom.is (
    atom_reads (g.S.Store.names c.args.store.now) (g.S.Store.present c.args.store.now) (g.S.Store.present c.meet_atom.new.self) (g.met.S.Store.untouched c.args.store.now)
    c.args.environment.now c.args.compounds.now c.args.argument c.in-Atom.atom answer h))

pub returns-in-Inner-clause-reads : goal.returns-in-Inner-clause-reads
returns-in-Inner-clause-reads g c =
    let inside : c.in-Inner.number < length c.args.compounds.now = search rules in
    rw c.in-Inner.is (inner_reads (g.S.Store.names c.args.store.now) (g.S.Store.present c.args.store.now) (g.S.Store.present c.args.store.now) (g.met.S.Store.untouched c.args.store.now)
    c.args.environment.now c.args.compounds.now c.args.argument c.in-Inner.number inside)
