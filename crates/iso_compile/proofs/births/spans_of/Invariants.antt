-- What is left to be noted, and what was noted, are all.
use Rattle.std.proofs.Common.{◌≡◌, drop, length}
use Rattle.iso_compile.specs.Births.{with_code}
use Rattle.iso_compile.proofs.births.spans_of.Given as goal

abbrev pub invariant-loop-address : goal.invariant-loop-address
invariant-loop-address l = (with_code l.address (drop l.address l.code) l.spans.items ≡ with_code 0 l.code l.initial.spans.items) × (length l.initial.spans.items ≡ l.count)
