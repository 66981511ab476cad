-- The variables of the tokens so far are counted.
use Rattle.std.proofs.Common.{map, take}
use Rattle.iso_token.specs.Shows.{shown}
use Rattle.iso_lint.specs.Counts.{AreCounted}
use Rattle.iso_lint.proofs.once.counted.Given as goal

abbrev pub invariant-loop-token : goal.invariant-loop-token
invariant-loop-token l = AreCounted l.counts (map shown (take l.token-index l.tokens))
