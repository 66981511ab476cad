use Rattle.iso_bodies.proofs.NoteLemmas.{operand_noted}
use Rattle.iso_bodies.proofs.fresh.note_all.Goals as goal

pub loop-operand-preserved : goal.loop-operand-preserved
loop-operand-preserved c =
    operand_noted c.args.operands.now c.loop-operand.operand-index c.operand-item.result c.args.met.now.items c.loop-operand.met.items c.note.new.met.items c.loop-operand-test.true c.operand-item.is c.loop-operand.invariant
    c.note.ensures
