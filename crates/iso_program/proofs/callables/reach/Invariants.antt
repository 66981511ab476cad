-- So many names have a row, and none has more callables than before.
use Rattle.std.proofs.Common.{◌≡◌, ℕ, length}
use Rattle.iso_program.specs.Callables.{callee_at}
use Rattle.iso_program.proofs.callables.reach.Given as goal

abbrev pub invariant-loop-row : goal.invariant-loop-row
invariant-loop-row l = record {
  count : length l.callables.items ≡ l._row;
  same : (a n : ℕ) → callee_at l.callables.items a n ≡ callee_at l.fn.callables.items a n;
}
