-- What is left to be noted, and what was noted, are all.
use Rattle.std.proofs.Common.{◌≡◌, drop}
use Rattle.iso_compile.specs.Births.{with_parts}
use Rattle.iso_compile.specs.Emitted.{all_parts}
use Rattle.iso_compile.proofs.births.note_blocks.Given as goal

abbrev pub invariant-loop-block : goal.invariant-loop-block
invariant-loop-block l = with_parts l.address (all_parts (drop l.block-index l.blocks)) l.spans.items ≡ with_parts l.address (all_parts l.blocks) l.fn.spans.items
