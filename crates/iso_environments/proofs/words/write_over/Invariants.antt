use Rattle.std.proofs.Common.{◌≡◌, ◌≤◌, ◌+◌, ◌++◌, ◌-◌, length, take}
use Rattle.iso_environments.proofs.words.write_over.Given as goal

abbrev pub invariant-loop-index : goal.invariant-loop-index
invariant-loop-index g l = (l.index ≤ length l.fn.words) × (length l.file ≡ length l.fn.file)
    × (take (l.fn.place + l.index) l.file ≡ take l.fn.place l.fn.file ++ take l.index l.fn.words)

abbrev pub decreases-loop-index : goal.decreases-loop-index
decreases-loop-index g l = length l.fn.words - l.index
