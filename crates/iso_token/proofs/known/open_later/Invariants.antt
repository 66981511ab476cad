-- From the place that was reached the item isn't closed.
use Rattle.std.proofs.Common.{◌≡◌, ◌-◌, None, drop}
use Rattle.iso_model.specs.Syntax.Quoted.{item_len}
use Rattle.iso_token.proofs.known.open_later.Given as goal

abbrev pub invariant-loop-at : goal.invariant-loop-at
invariant-loop-at l = item_len l.quote (drop l.at l.bytes) ≡ None

abbrev pub decreases-loop-at : goal.decreases-loop-at
decreases-loop-at l = l.first - l.at
