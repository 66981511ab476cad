-- The clause goes on behind the tokens that were taken.
use Rattle.std.proofs.Common.{◌≡◌, ◌≤◌, ◌∷◌, length, map}
use Rattle.iso_model.specs.Syntax.Clauses.{split_clause}
use Rattle.iso_token.specs.Shows.{shown}
use Rattle.iso_read.proofs.Splits.{behind_tokens}
use Rattle.iso_read.proofs.clause.clause_from.Given as goal

abbrev pub invariant-loop-token : goal.invariant-loop-token
invariant-loop-token l =
    (length l.tokens ≤ length l.initial.tokens)
    × (behind_tokens (map shown l.clause.items) (split_clause (shown l.token ∷ l.tokens)) ≡ split_clause (shown l.fn.first ∷ l.initial.tokens))

abbrev pub decreases-loop-token : goal.decreases-loop-token
decreases-loop-token l = length l.tokens
