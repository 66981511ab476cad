-- The view offers what it offered, and is no further back.
use Rattle.std.proofs.Common.{ℕ, List, ◌≤◌, ◌-◌}
use Rattle.iso_clauses.specs.Clauses.{Clause}
use Rattle.iso_db.specs.Keyed.{Offers}
use Rattle.iso_db.proofs.keyed.next_fitting.Given as goal

abbrev pub invariant-loop-id : goal.invariant-loop-id
invariant-loop-id g l = record {
  offers : (removals : ℕ) (cs : List (Clause g.row.C.Denot)) → Offers l.slots.items removals l.lists.items l.key l.initial.view cs → Offers l.slots.items removals l.lists.items l.key l.view cs;
  later : l.view.end - l.view.next ≤ l.initial.view.end - l.initial.view.next;
}

abbrev pub decreases-loop-id : goal.decreases-loop-id
decreases-loop-id g l = l.view.end - l.view.next
