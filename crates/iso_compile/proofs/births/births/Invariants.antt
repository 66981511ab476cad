-- The variables so far are born, and nothing else has changed.
use Rattle.std.proofs.Common.{◌≡◌, length}
use Rattle.iso_compile.specs.Births.{Births}
use Rattle.iso_compile.proofs.births.births.Given as goal

abbrev pub invariant-loop-address : goal.invariant-loop-address
invariant-loop-address l = Births l.spans.items l.barriers.items l.met l.fn.code.items l.code.items l.born.items × (length l.born.items ≡ length l.met) × (length l.code.items ≡ length l.fn.code.items)
