-- What is found at the tokens so far.
use Rattle.std.proofs.Common.{◌≡◌, map, take}
use Rattle.iso_token.specs.Shows.{shown}
use Rattle.iso_lint.specs.Findings.{once_at}
use Rattle.iso_lint.specs.FindingViews.{finding_of}
use Rattle.iso_lint.proofs.findings.found_once.Given as goal

abbrev pub invariant-loop-token : goal.invariant-loop-token
invariant-loop-token l = map finding_of l.found.items ≡ map once_at (map shown (take l.token-index l.token-items))
