-- The value so far, with the digits that are left, is the whole.
use Rattle.std.proofs.Common.{◌≡◌, fold, drop}
use Rattle.iso_model.specs.Syntax.Numbers.{number_step, number_value}
use Rattle.iso_token.specs.Classes.{radix_of}
use Rattle.iso_token.proofs.numbers.number_value.Given as goal

abbrev pub invariant-loop-digit : goal.invariant-loop-digit
invariant-loop-digit l = fold (number_step (radix_of l.base)) l.value (drop l.digit-index l.digits) ≡ number_value (radix_of l.base) l.digits
