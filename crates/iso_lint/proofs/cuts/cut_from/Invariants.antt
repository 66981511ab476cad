-- The cut goes on behind the tokens that were taken.
use Rattle.std.proofs.Common.{◌≡◌, ◌≤◌, ◌∷◌, length, map}
use Rattle.iso_token.specs.Shows.{shown}
use Rattle.iso_lint.specs.Parts.{cut}
use Rattle.iso_lint.proofs.CutLemmas.{behind_tokens}
use Rattle.iso_lint.proofs.cuts.cut_from.Given as goal

abbrev pub invariant-loop-before : goal.invariant-loop-before
invariant-loop-before l =
    (length l.tokens ≤ length l.initial.tokens)
    × (behind_tokens (map shown l.before.items) (cut (shown l.token ∷ l.tokens)) ≡ cut (shown l.fn.first ∷ l.initial.tokens))

abbrev pub decreases-loop-before : goal.decreases-loop-before
decreases-loop-before l = length l.tokens
