-- The clauses that are left are those of the beginning: what was passed over gave none.
use Rattle.std.proofs.Common.{◌-◌, ◌≡◌, ◌≤◌, drop, take}
use Rattle.iso_clauses.specs.Blocks.{ids_from}
use Rattle.iso_clauses.specs.Slots.{given}
use Rattle.iso_clauses.proofs.views.step.Given as goal

abbrev pub invariant-loop-next : goal.invariant-loop-next
invariant-loop-next g l =
    (l.view.next ≤ l.next) × (given {C = g.row.C.Denot} l.slots l.view.made (drop l.next (take l.view.end (ids_from l.block l.view.outer)))
    ≡ given l.slots l.view.made (drop l.view.next (take l.view.end (ids_from l.block l.view.outer))))

abbrev pub decreases-loop-next : goal.decreases-loop-next
decreases-loop-next g l = l.view.end - l.next
