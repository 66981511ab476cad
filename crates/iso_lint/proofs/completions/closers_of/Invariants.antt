-- The marks that close what is open behind the tokens so far.
use Rattle.std.proofs.Common.{◌≡◌, map, take, reverse}
use Rattle.iso_ops.specs.Entries.{text_of}
use Rattle.iso_token.specs.Shows.{shown}
use Rattle.iso_lint.specs.Completions.{closers}
use Rattle.iso_lint.proofs.completions.closers_of.Given as goal

abbrev pub invariant-loop-token : goal.invariant-loop-token
invariant-loop-token l = reverse (map text_of l.marks.items) ≡ closers (map shown (take l.token-index l.tokens))
