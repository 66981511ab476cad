-- What was found are those of the tokens so far.
use Rattle.std.proofs.Common.{◌≡◌, map, take}
use Rattle.std.specs.List.{filter}
use Rattle.iso_token.specs.Shows.{shown}
use Rattle.iso_lint.specs.Once.{occurs_once}
use Rattle.iso_lint.proofs.once.variables_once.Given as goal

abbrev pub invariant-loop-token : goal.invariant-loop-token
invariant-loop-token l = map shown l.found.items ≡ filter (occurs_once (map shown l.tokens)) (map shown (take l.token-index l.tokens))
