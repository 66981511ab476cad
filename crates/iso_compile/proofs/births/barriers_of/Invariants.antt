-- The barriers so far are right.
use Rattle.std.proofs.Common.{◌≡◌, length}
use Rattle.iso_compile.specs.Births.{AreBarriers}
use Rattle.iso_compile.proofs.births.barriers_of.Given as goal

abbrev pub invariant-loop : goal.invariant-loop
invariant-loop l = AreBarriers l.sources l.barriers.items × (length l.barriers.items ≡ l.counter)
