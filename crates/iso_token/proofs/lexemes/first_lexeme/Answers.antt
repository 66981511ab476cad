use Rattle.std.proofs.Common.{slice_index, sym, ◌∙◌, arith}
use Rattle.std.proofs.lemmas.Bool.Decides.{nat_tests}
use Rattle.iso_model.proofs.Syntax.LexemeLemmas.{BeginsSymbol, lexeme-symbol}
use Rattle.iso_token.proofs.lexemes.first_lexeme.Goals as goal
use Rattle.iso_token.proofs.lexemes.first_lexeme.Goals.{in_default-2-via-then-this-lt48, in_default-2-via-else-this-lt48+else-this-lt58+then-this-lt65, in_default-2-via-else-this-lt48+else-this-lt58+else-this-lt65+else-this-lt91+then-this-lt97, in_default-2-via-else-this-lt48+else-this-lt58+else-this-lt65+else-this-lt91+else-this-lt97+else-this-lt123}

pub returns-in_default-2-clause-value : goal.returns-in_default-2-clause-value
returns-in_default-2-clause-value c =
    let b = slice_index c.args.bytes.now 0 in
    let begins : BeginsSymbol b =
    elim c.in_default-2.branch [
      | in_default-2-via-then-this-lt48 w ↦ record { percent = grind (arith, nat_tests); small = grind (arith, nat_tests); variable = grind (arith, nat_tests); digit = grind (arith, nat_tests); single = grind (arith, nat_tests); double = grind (arith, nat_tests) }
      | in_default-2-via-else-this-lt48+else-this-lt58+then-this-lt65 w ↦ record { percent = grind (arith, nat_tests); small = grind (arith, nat_tests); variable = grind (arith, nat_tests); digit = grind (arith, nat_tests); single = grind (arith, nat_tests); double = grind (arith, nat_tests) }
      | in_default-2-via-else-this-lt48+else-this-lt58+else-this-lt65+else-this-lt91+then-this-lt97 w ↦ record { percent = grind (arith, nat_tests); small = grind (arith, nat_tests); variable = grind (arith, nat_tests); digit = grind (arith, nat_tests); single = grind (arith, nat_tests); double = grind (arith, nat_tests) }
      | in_default-2-via-else-this-lt48+else-this-lt58+else-this-lt65+else-this-lt91+else-this-lt97+else-this-lt123 w ↦ record { percent = grind (arith, nat_tests); small = grind (arith, nat_tests); variable = grind (arith, nat_tests); digit = grind (arith, nat_tests); single = grind (arith, nat_tests); double = grind (arith, nat_tests) }
    ] in
    c.symbol.ensures.value ∙ sym (lexeme-symbol c.args.bytes.now (sym c.is_layout.ensures ∙ c.if-is_layout.false) begins)
