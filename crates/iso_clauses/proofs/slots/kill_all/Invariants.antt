-- The clauses of the numbers so far are removed.
use Rattle.std.proofs.Common.{take}
use Rattle.iso_clauses.specs.Blocks.{ids}
use Rattle.iso_clauses.specs.Slots.{Clears, IsCounted}
use Rattle.iso_clauses.proofs.slots.kill_all.Given as goal

abbrev pub invariant-loop-position : goal.invariant-loop-position
invariant-loop-position g l = record {
  cleared : Clears {C = g.row.C.Denot} (take l.position (ids l.block)) l.initial.slots.items l.initial.removals l.slots.items l.removals;
  counted : IsCounted {C = g.row.C.Denot} l.slots.items l.removals;
}
