use Rattle.std.proofs.Common.{rules}
use Rattle.iso_arith.proofs.QuotientLemmas.{rest_is}
use Rattle.iso_arith.proofs.quotients.remainder.Goals as goal

pub returns : goal.returns
returns c = rw (rest_is c.args.x c.args.y) (search rules)
