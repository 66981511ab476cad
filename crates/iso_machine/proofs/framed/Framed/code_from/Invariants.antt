-- The list from the place on is that from the place that the call begins at, and no more is to be done of it.
use Rattle.iso_frames.specs.Frames.{depth_of}
use Rattle.iso_machine.proofs.FrameLemmas.{Same}
use Rattle.iso_machine.proofs.framed.Framed.code_from.Given as goal

abbrev pub invariant-loop-place : goal.invariant-loop-place
invariant-loop-place g l = Same g.S.Cells.atom_word l.self l.fn.place l.place

abbrev pub decreases-loop-place : goal.decreases-loop-place
decreases-loop-place g l = depth_of l.place
