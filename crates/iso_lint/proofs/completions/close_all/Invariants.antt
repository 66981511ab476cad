-- The tokens, with the marks that are left behind them.
use Rattle.std.proofs.Common.{◌≡◌, ◌++◌, map, reverse}
use Rattle.iso_ops.specs.Entries.{text_of}
use Rattle.iso_token.specs.Shows.{shown}
use Rattle.iso_lint.specs.Completions.{mark}
use Rattle.iso_lint.proofs.completions.close_all.Given as goal

abbrev pub invariant-loop-text : goal.invariant-loop-text
invariant-loop-text l = map shown l.tokens.items ++ map mark (reverse (map text_of l.text-iterator.iter.rest.items)) ≡ map shown l.fn.tokens.items ++ map mark (reverse (map text_of l.fn.marks.items))
