use Rattle.std.proofs.Common.{◌≤◌, sym, ◌∙◌, arith}
use Rattle.iso_model.proofs.Syntax.NumberLemmas.{digits-over}
use Rattle.iso_token.specs.declared.classes.Base.{Base}
use Rattle.iso_token.specs.declared.classes.Base.TheVariants as base
use Rattle.iso_token.specs.Classes.{radix_of}
use Rattle.iso_token.proofs.numbers.number_value.Goals as goal

some_digits : (b : Base) → 1 ≤ radix_of b
some_digits base.Two = omega arith
some_digits base.Eight = omega arith
some_digits base.Ten = omega arith
some_digits base.Sixteen = omega arith

pub returns-in_err-value : goal.returns-in_err-value
returns-in_err-value c =
    let b = c.args.base in
    let over = digits-over (radix_of b) (some_digits b) c.args.digits.now c.loop-digit.digit-index c.loop-digit.value _ (omega arith) (omega (arith, c.in_err-value.ensures)) c.loop-digit.invariant in
    c.from_residual.ensures ∙ sym over
