-- Nothing is lost so far but of clauses that were removed.
use Rattle.iso_clauses.specs.Slots.{Cleans}
use Rattle.iso_clauses.proofs.tidying.forget_values.Given as goal

abbrev pub invariant-loop-place : goal.invariant-loop-place
invariant-loop-place g l = Cleans {C = g.row.C.Denot} l.initial.slots.items l.slots.items l.removals
