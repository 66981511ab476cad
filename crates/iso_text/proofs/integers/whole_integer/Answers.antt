use Rattle.std.proofs.Common.{◌≡◌, ◌<◌, [], true, length, slice_index, sym, ap, ◌∙◌, option_and_then, arith}
use Rattle.std.proofs.lemmas.Bool.Decides.{nat_tests}
use Rattle.iso_model.specs.Syntax.Characters.{is_digit}
use Rattle.iso_model.specs.Syntax.Token.{bounded}
use Rattle.iso_model.specs.Syntax.Tokens.{tokens}
use Rattle.iso_token.specs.Shows.{shown}
use Rattle.iso_text.proofs.IntegerLemmas.{no_tokens, integer_part, integer_whole}
use Rattle.iso_text.proofs.integers.whole_integer.Goals as goal

pub returns-in_err-token : goal.returns-in_err-token
returns-in_err-token c =
    let z = c.args.text.now in
    let some : 0 < length z = grind (arith, nat_tests) in
    let first : is_digit (slice_index z 0) ≡ true = grind (arith, nat_tests) in
    let none : tokens z ≡ [] = sym c.new-tokens.ensures.all ∙ c.in_err-token.ensures.0 in
    no_tokens z some first _ none

pub returns-then-token-text : goal.returns-then-token-text
returns-then-token-text c =
    let z = c.args.text.now in
    let t = c.in_ok-token.token in
    let some : 0 < length z = grind (arith, nat_tests) in
    let first : is_digit (slice_index z 0) ≡ true = grind (arith, nat_tests) in
    sym (ap (option_and_then bounded) (integer_part z some first (shown t) c.next.new.self (sym c.new-tokens.ensures.all ∙ c.in_ok-token.ensures) c.if-token-text.true))

pub returns : goal.returns
returns c =
    let z = c.args.text.now in
    let t = c.in_ok-token.token in
    let some : 0 < length z = grind (arith, nat_tests) in
    let first : is_digit (slice_index z 0) ≡ true = grind (arith, nat_tests) in
    c.magnitude.ensures ∙ integer_whole z some first (shown t) c.next.new.self (sym c.new-tokens.ensures.all ∙ c.in_ok-token.ensures) c.if-token-text.false
