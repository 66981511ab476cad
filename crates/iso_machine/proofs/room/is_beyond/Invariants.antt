-- What is counted is no more than the most and one; the first so many choices are left.
use Rattle.std.proofs.Common.{◌≤◌, ◌+◌, length}
use Rattle.iso_machine.proofs.RoomLemmas.{Spanned}
use Rattle.iso_machine.proofs.room.is_beyond.Given as goal

abbrev pub invariant-loop-height : goal.invariant-loop-height
invariant-loop-height g l = record {
  few : l.count ≤ l.most + 1;
  stand : l.height ≤ length l.search.choices.items;
  spanned : Spanned g.S.Store g.S.Cells.atom_word l.search l.fn.place l.count l.height;
}

abbrev pub decreases-loop-height : goal.decreases-loop-height
decreases-loop-height g l = l.height
