-- What was seen and what is left make the whole.
use Rattle.std.proofs.Common.{◌≡◌, max, drop}
use Rattle.iso_code.specs.Loading.{behind_blocks}
use Rattle.iso_code.proofs.loading.behind_blocks.Given as goal

abbrev pub invariant-loop-block : goal.invariant-loop-block
invariant-loop-block l = max l.next (behind_blocks (drop l.block-index l.blocks)) ≡ behind_blocks l.blocks
