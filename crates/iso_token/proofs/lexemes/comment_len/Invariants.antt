-- The comment goes on as far as what is read and what is left of it.
use Rattle.std.proofs.Common.{◌≡◌, ◌+◌, drop, option_map}
use Rattle.iso_model.specs.Syntax.Lexemes.{comment_len}
use Rattle.iso_token.proofs.lexemes.comment_len.Given as goal

abbrev pub invariant-loop-at : goal.invariant-loop-at
invariant-loop-at l = option_map (λ n. l.at + n) (comment_len (drop l.at l.bytes)) ≡ comment_len l.bytes
