use Rattle.std.proofs.Common.{rules, ◌<◌, length}
use Rattle.std.specs.Int.{w128}
use Rattle.std.proofs.lemmas.Int.{to_z-of_z}
use mir.Val.{SFits}
use Rattle.iso_reading.proofs.OperandLemmas.{if_ok_by, new_reads, integer_reads, atom_reads}
use Rattle.iso_reading.proofs.reading.read_operand.Goals as goal

pub returns-in-New-clause-reads : goal.returns-in-New-clause-reads
returns-in-New-clause-reads g c =
    let inside : c.in-New.variable < length c.args.environment.now = search rules in
    rw c.in-New.is (new_reads (g.S.Store.names c.args.store.now) (g.S.Store.present c.args.store.now) (g.S.Store.present c.args.store.now) (g.met.S.Store.untouched c.args.store.now)
    c.args.environment.now c.args.compounds.now c.args.argument c.in-New.variable inside)

pub returns-in-Integer-clause-reads : goal.returns-in-Integer-clause-reads
returns-in-Integer-clause-reads g c =
    let fits : SFits w128 c.in-Integer.value = search rules in
    let unified = rw (to_z-of_z w128 c.in-Integer.value fits) at c.meet_integer.ensures.unified in
    if_ok_by c.meet_integer.result unified (λ answer h. rw c.in-Integer.is (
    integer_reads (g.S.Store.names c.args.store.now) (g.S.Store.present c.args.store.now) (g.S.Store.present c.meet_integer.new.self) (g.met.S.Store.untouched c.args.store.now)
    c.args.environment.now c.args.compounds.now c.args.argument c.in-Integer.value answer h))

pub returns-in-Atom-clause-reads : goal.returns-in-Atom-clause-reads
returns-in-Atom-clause-reads g c =
    if_ok_by c.meet_atom.result c.meet_atom.ensures.unified (λ answer h. rw c.in-Atom.is (
    atom_reads (g.S.Store.names c.args.store.now) (g.S.Store.present c.args.store.now) (g.S.Store.present c.meet_atom.new.self) (g.met.S.Store.untouched c.args.store.now)
    c.args.environment.now c.args.compounds.now c.args.argument c.in-Atom.name answer h))
