-- The blocks so far were noted.
use Rattle.std.proofs.Common.{take}
use Rattle.iso_code.specs.Loaded.{all_operands}
use Rattle.iso_bodies.specs.Notes.{Notes}
use Rattle.iso_bodies.proofs.fresh.note_blocks.Given as goal

abbrev pub invariant-loop-block : goal.invariant-loop-block
invariant-loop-block l = Notes (all_operands (take l.block-index l.blocks)) l.fn.met.items l.met.items
