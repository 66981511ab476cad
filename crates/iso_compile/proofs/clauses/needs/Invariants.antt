-- With slots and registers enough for the rest, they are enough for all.
use Rattle.std.proofs.Common.{◌≤◌, ℕ, drop}
use Rattle.iso_compile.specs.Control.{AreSized}
use Rattle.iso_compile.proofs.clauses.needs.Given as goal

abbrev pub invariant-loop-instruction : goal.invariant-loop-instruction
invariant-loop-instruction l =
    ((s r : ℕ) → l.slots ≤ s → l.registers ≤ r → AreSized s r (drop l.instruction-index l.instruction-items) → AreSized s r l.instruction-items)
    × (l.fn.slots ≤ l.slots)
    × (l.fn.registers ≤ l.registers)
