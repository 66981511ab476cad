-- The clauses of the numbers so far were removed.
use Rattle.std.proofs.Common.{◌≡◌, take, is_some, false}
use Rattle.std.specs.List.{All}
use Rattle.iso_clauses.specs.Blocks.{ids}
use Rattle.iso_clauses.specs.Slots.{clause_at}
use Rattle.iso_clauses.proofs.tidying.passed.Given as goal

abbrev pub invariant-loop-position : goal.invariant-loop-position
invariant-loop-position g l = All (λ n. is_some (clause_at {C = g.row.C.Denot} l.slots l.removals n) ≡ false) (take l.position (ids l.block))
