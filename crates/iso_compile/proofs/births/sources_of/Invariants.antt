-- So it is of the instructions so far.
use Rattle.std.proofs.Common.{◌≡◌, ◌≤◌, ◌<◌, ℕ, Some, length}
use Rattle.std.specs.List.{slice_get}
use Rattle.iso_prep.specs.Trees.{At}
use Rattle.iso_compile.specs.declared.control.Instruction.{Instruction}
use Rattle.iso_compile.specs.Births.{target}
use Rattle.iso_compile.proofs.births.sources_of.Given as goal

abbrev pub invariant-loop-address : goal.invariant-loop-address
invariant-loop-address l =
    ((s : ℕ) (i : Instruction) (k t : ℕ) → s < l.address → At l.code s i → target i ≡ Some k → slice_get l.sources.items k ≡ Some t → s ≤ t) × (length l.sources.items ≡ length l.code)
