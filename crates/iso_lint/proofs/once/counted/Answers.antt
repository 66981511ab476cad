use Rattle.iso_lint.proofs.CountLemmas.{counted_later}
use Rattle.iso_lint.proofs.once.counted.Goals as goal

pub loop-token-preserved : goal.loop-token-preserved
loop-token-preserved c = counted_later c.args.tokens.now c.loop-token.token-index _ _ _ c.loop-token-test.true c.in_ok-count.ensures c.loop-token.invariant
