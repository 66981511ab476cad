use Rattle.std.proofs.Common.{◌≤◌, length, slice_index, sym, ◌∙◌, arith}
use Rattle.std.proofs.lemmas.Bool.Decides.{nat_tests}
use Rattle.std.specs.Str.{continuation_len}
use Rattle.iso_token.proofs.CodeLemmas.{code_short, code_one, code_two, code_three, code_four}
use Rattle.iso_token.proofs.numbers.first_code.Goals as goal

pub returns-in-len1-up : goal.returns-in-len1-up
returns-in-len1-up c = c.from.ensures ∙ sym (code_one c.args.bytes.now (omega arith) (omega arith))

pub returns-in-len2-up : goal.returns-in-len2-up
returns-in-len2-up c = omega (arith, code_two c.args.bytes.now (omega arith) (omega arith) (omega arith))

pub returns-in-len3-up : goal.returns-in-len3-up
returns-in-len3-up c = omega (arith, code_three c.args.bytes.now (omega arith) (omega arith) (omega arith))

pub returns-in-len4-up : goal.returns-in-len4-up
returns-in-len4-up c = omega (arith, code_four c.args.bytes.now (omega arith) (omega arith))

pub returns-in_default : goal.returns-in_default
returns-in_default c = let few : length c.args.bytes.now ≤ continuation_len (slice_index c.args.bytes.now 0) = grind (arith, nat_tests) in sym (code_short c.args.bytes.now few)

pub returns-in_default-2 : goal.returns-in_default-2
returns-in_default-2 c = let few : length c.args.bytes.now ≤ continuation_len (slice_index c.args.bytes.now 0) = grind (arith, nat_tests) in sym (code_short c.args.bytes.now few)

pub returns-in_default-3 : goal.returns-in_default-3
returns-in_default-3 c = let few : length c.args.bytes.now ≤ continuation_len (slice_index c.args.bytes.now 0) = grind (arith, nat_tests) in sym (code_short c.args.bytes.now few)

pub returns-in_default-4 : goal.returns-in_default-4
returns-in_default-4 c = let few : length c.args.bytes.now ≤ continuation_len (slice_index c.args.bytes.now 0) = grind (arith, nat_tests) in sym (code_short c.args.bytes.now few)
