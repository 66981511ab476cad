-- what is kept stays the same
use Rattle.std.proofs.Common.{◌≡◌, take, length}
use Rattle.iso_environments.proofs.giving.keep_lowest.Given as goal

abbrev pub invariant-loop-frames : goal.invariant-loop-frames
invariant-loop-frames l = take l.fn.count l.frames.items ≡ take l.fn.count l.fn.frames.items

abbrev pub decreases-loop-frames : goal.decreases-loop-frames
decreases-loop-frames l = length l.frames.items
