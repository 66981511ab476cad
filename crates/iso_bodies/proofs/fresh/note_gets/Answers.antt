use Rattle.iso_bodies.proofs.NoteLemmas.{get_noted}
use Rattle.iso_bodies.proofs.fresh.note_gets.Goals as goal

pub loop-get-preserved : goal.loop-get-preserved
loop-get-preserved c =
    get_noted c.args.gets.now c.loop-get.get-index c.get-item.result c.args.met.now.items c.loop-get.met.items c.note.new.met.items c.loop-get-test.true c.get-item.is c.loop-get.invariant
    c.note.ensures
