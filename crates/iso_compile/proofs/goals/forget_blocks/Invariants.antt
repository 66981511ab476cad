-- What is left to be forgotten, and what was forgotten, are all.
use Rattle.std.proofs.Common.{◌≡◌, drop}
use Rattle.iso_compile.specs.Emitting.{without_voids}
use Rattle.iso_compile.specs.Emitted.{all_parts}
use Rattle.iso_compile.proofs.goals.forget_blocks.Given as goal

abbrev pub invariant-loop-block : goal.invariant-loop-block
invariant-loop-block l = without_voids l.met.items (all_parts (drop l.block-index l.blocks)) ≡ without_voids l.fn.met.items (all_parts l.blocks)
