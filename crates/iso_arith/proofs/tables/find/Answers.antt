use Rattle.std.proofs.Common.{sym, ◌∙◌}
use Rattle.iso_arith.proofs.TableLemmas.{found, passed}
use Rattle.iso_arith.proofs.tables.find.Goals as goal

pub returns-then-eq : goal.returns-then-eq
returns-then-eq g c = λ names once named here.
    sym (found names c.args.table.now c.loop-atom.atom-index c.loop-atom-item.result c.args.name once named here c.loop-atom-test.true c.loop-atom-item.is (sym c.eq.ensures ∙ c.if-eq.true))
    ∙ c.loop-atom.invariant names once named here

pub loop-atom-preserved : goal.loop-atom-preserved
loop-atom-preserved g c = λ names once named here.
    passed names c.args.table.now c.loop-atom.atom-index c.loop-atom-item.result c.args.name once named here c.loop-atom-test.true c.loop-atom-item.is (sym c.eq.ensures ∙ c.if-eq.false)
    ∙ c.loop-atom.invariant names once named here
