-- The tokens of what is left, behind layout or not, are those that there were.
use Rattle.std.proofs.Common.{◌≡◌, ◌+◌, ◌^◌, ◌<◌, length}
use Rattle.iso_model.specs.Syntax.Tokens.{tokens_from}
use Rattle.iso_token.specs.Known.{IsKnown}
use Rattle.iso_token.proofs.cursor.Tokens.next.Given as goal

abbrev pub invariant-loop-self : goal.invariant-loop-self
invariant-loop-self l = (tokens_from 0 l.self-inside.start l.after_layout l.self-inside.rest.now ≡ l.fn.self) × (l.self-inside.start + length l.self-inside.rest.now < 2 ^ 64) × IsKnown l.self-inside.known l.self-inside.rest.now

abbrev pub decreases-loop-self : goal.decreases-loop-self
decreases-loop-self l = length l.self-inside.rest.now
