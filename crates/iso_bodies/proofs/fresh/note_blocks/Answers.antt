use Rattle.iso_bodies.proofs.NoteLemmas.{block_noted}
use Rattle.iso_bodies.proofs.fresh.note_blocks.Goals as goal

pub loop-block-preserved : goal.loop-block-preserved
loop-block-preserved c =
    block_noted c.args.blocks.now c.loop-block.block-index c.block-item.result c.args.met.now.items c.loop-block.met.items c.note_all.new.met.items c.loop-block-test.true c.block-item.is c.loop-block.invariant
    (rw c.as_slice.ensures.value at c.note_all.ensures)
