use Rattle.std.proofs.Common.{rules, ◌<◌, length}
use Rattle.iso_reading.proofs.OperandLemmas.{new_reads, inner_reads}
use Rattle.iso_reading.proofs.reading.read_argument.Goals as goal

pub returns-in-New-clause-reads : goal.returns-in-New-clause-reads
returns-in-New-clause-reads g c =
    let inside : c.in-New.index < length c.args.environment.now = search rules in
    rw c.in-New.is (new_reads (g.S.Store.names c.args.store.now) (g.S.Store.present c.args.store.now) (g.S.Store.present c.args.store.now) (g.met.S.Store.untouched c.args.store.now)
    c.args.environment.now c.args.compounds.now c.args.argument c.in-New.index inside)

pub returns-in-Inner-clause-reads : goal.returns-in-Inner-clause-reads
returns-in-Inner-clause-reads g c =
    let inside : c.in-Inner.compound < length c.args.compounds.now = search rules in
    rw c.in-Inner.is (inner_reads (g.S.Store.names c.args.store.now) (g.S.Store.present c.args.store.now) (g.S.Store.present c.args.store.now) (g.met.S.Store.untouched c.args.store.now)
    c.args.environment.now c.args.compounds.now c.args.argument c.in-Inner.compound inside)
