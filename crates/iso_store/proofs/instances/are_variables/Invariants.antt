-- The parts so far are variables.
use Rattle.std.proofs.Common.{ℕ, ◌<◌, get_or}
use Rattle.iso_store_core.specs.declared.patterns.Part.{Part}
use Rattle.iso_store.specs.Writing.{IsVariable}
use Rattle.iso_store.proofs.instances.are_variables.Given as goal

abbrev pub invariant-loop-part : goal.invariant-loop-part
invariant-loop-part l = (k : ℕ) (d : Part) → k < l.part-index → IsVariable (get_or l.parts k d)
