-- The items so far, and those of the tokens that are left, are all of them.
use Rattle.std.proofs.Common.{map, length}
use Rattle.iso_model.specs.Syntax.Tokens.{tokens}
use Rattle.iso_lint.specs.Findings.{item}
use Rattle.iso_lint.specs.ItemViews.{item_of}
use Rattle.iso_lint.specs.Parts.{parts}
use Rattle.iso_lint.proofs.ItemLemmas.{IsLeft}
use Rattle.iso_lint.proofs.items.items_of.Given as goal

abbrev pub invariant-loop-items : goal.invariant-loop-items
invariant-loop-items l = IsLeft (length l.text) (map (item (length l.text)) (parts (tokens l.text))) (map item_of l.items.items) l.tokens l.settings

abbrev pub decreases-loop-items : goal.decreases-loop-items
decreases-loop-items l = length l.tokens
