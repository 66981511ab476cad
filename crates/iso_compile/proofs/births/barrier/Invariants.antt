-- Each lower address at which code goes on from a higher one is below the barrier so far.
use Rattle.std.proofs.Common.{◌≡◌, ◌≤◌, ◌<◌, ℕ, Some}
use Rattle.std.specs.List.{slice_get}
use Rattle.iso_compile.proofs.births.barrier.Given as goal

abbrev pub invariant-loop-barrier : goal.invariant-loop-barrier
invariant-loop-barrier l = (l.barrier ≤ l.address) × ((k t : ℕ) → k < l.address → slice_get l.sources k ≡ Some t → l.address < t → k < l.barrier)

abbrev pub decreases-loop-barrier : goal.decreases-loop-barrier
decreases-loop-barrier l = l.barrier
