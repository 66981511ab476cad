-- Which bytes each class has.
use Rattle.std.specs.Prelude.{ℕ, Bool}
use Rattle.iso_model.specs.Syntax.Characters.{is_alphanumeric, is_digit_of, is_graphic, is_in_line, is_continuation}
use Rattle.iso_token.specs.declared.classes.Base.{Base}
use Rattle.iso_token.specs.declared.classes.Base.TheVariants as base
use Rattle.iso_token.specs.declared.classes.Class.{Class}
use Rattle.iso_token.specs.declared.classes.Class.TheVariants as class

-- how many digits a base has
abbrev pub radix_of : Base → ℕ
radix_of base.Two = 2
radix_of base.Eight = 8
radix_of base.Ten = 10
radix_of base.Sixteen = 16

abbrev pub is_of : Class → ℕ → Bool
is_of class.Alphanumeric b = is_alphanumeric b
is_of (class.DigitOf radix) b = is_digit_of (radix_of radix) b
is_of class.Graphic b = is_graphic b
is_of class.InLine b = is_in_line b
is_of class.Continuation b = is_continuation b
