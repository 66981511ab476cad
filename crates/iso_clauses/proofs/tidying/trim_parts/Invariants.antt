-- The parts so far are tidied.
use Rattle.std.proofs.Common.{ℕ}
use Rattle.iso_clauses.specs.Kept.{Tidies}
use Rattle.iso_clauses.specs.declared.slots.Label.{Label}
use Rattle.iso_clauses.proofs.tidying.trim_parts.Given as goal

abbrev pub invariant-loop-position : goal.invariant-loop-position
invariant-loop-position g l = (of : Label → ℕ) → Tidies {C = g.row.C.Denot} of l.slots l.removals l.initial.lists.items l.lists.items
