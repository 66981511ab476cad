-- The members of the list that are counted are no more than the most; those from the place on are left.
use Rattle.std.proofs.Common.{◌≤◌}
use Rattle.iso_frames.specs.Frames.{depth_of}
use Rattle.iso_machine.proofs.RoomLemmas.{Counted}
use Rattle.iso_machine.proofs.room.members_from.Given as goal

abbrev pub invariant-loop-place : goal.invariant-loop-place
invariant-loop-place g l = record {
  few : l.count ≤ l.most;
  counted : Counted g.S.Cells.atom_word l.lists l.fn.place l.place l.count;
}

abbrev pub decreases-loop-place : goal.decreases-loop-place
decreases-loop-place g l = depth_of l.place
