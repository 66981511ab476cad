-- Those that are left to be used are those of the beginning.
use Rattle.std.proofs.Common.{◌≡◌, length}
use Rattle.iso_clauses.specs.Slots.{given}
use Rattle.iso_db.specs.Keyed.{usable}
use Rattle.iso_db.specs.Tails.{IsTail}
use Rattle.iso_db.proofs.keyed.next_usable.Given as goal

abbrev pub invariant-loop-rest : goal.invariant-loop-rest
invariant-loop-rest g l = record {
  tail : IsTail l.numbers l.rest;
  left : usable {C = g.row.C.Denot} l.slots.items l.key (given l.slots.items l.removals l.rest) ≡ usable l.slots.items l.key (given l.slots.items l.removals l.numbers);
}

abbrev pub decreases-loop-rest : goal.decreases-loop-rest
decreases-loop-rest g l = length l.rest
