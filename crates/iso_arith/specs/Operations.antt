-- What the operations give.
use Rattle.std.specs.Prelude.{ℤ, pos, neg_ℤ, ◌+ℤ◌, ◌-ℤ◌, ◌*ℤ◌, ◌^◌, unsigned_abs, int_div}
use Rattle.std.specs.Int.{w128, int_min, int_max, int_signum, int_bit_and, int_bit_or}
use Rattle.iso_model.specs.Search.Arithmetic.{Value, in_range, unless_zero, floored, floored_by, rest, whole, power, shifted}
use Rattle.iso_arith.specs.declared.operations.Unary.{Unary}
use Rattle.iso_arith.specs.declared.operations.Unary.TheVariants.{Negate, Absolute, Sign, Complement}
use Rattle.iso_arith.specs.declared.operations.Binary.{Binary}
use Rattle.iso_arith.specs.declared.operations.Binary.TheVariants.{Add, Subtract, Multiply, Divide, Remainder, DivideDown, Modulo, DivideWhole, Least, Greatest, Power, And, Or, ShiftLeft, ShiftRight}

-- the value of an operation of one argument
abbrev pub does_unary : Unary → ℤ → Value
does_unary Negate x = in_range (neg_ℤ x)
does_unary Absolute x = in_range (pos (unsigned_abs x))
does_unary Sign x = in_range (int_signum x)
does_unary Complement x = in_range (neg_ℤ x -ℤ pos 1)

-- the value of an operation of two
abbrev pub does_binary : Binary → ℤ → ℤ → Value
does_binary Add x y = in_range (x +ℤ y)
does_binary Subtract x y = in_range (x -ℤ y)
does_binary Multiply x y = in_range (x *ℤ y)
does_binary Divide x y = unless_zero y (in_range (int_div x y))
does_binary Remainder x y = unless_zero y (in_range (rest x y (int_div x y)))
does_binary DivideDown x y = unless_zero y (in_range (floored x y))
does_binary Modulo x y = unless_zero y (in_range (rest x y (floored x y)))
does_binary DivideWhole x y = unless_zero y (whole x y)
does_binary Least x y = in_range (int_min x y)
does_binary Greatest x y = in_range (int_max x y)
does_binary Power x y = power x y
does_binary And x y = in_range (int_bit_and w128 x y)
does_binary Or x y = in_range (int_bit_or w128 x y)
does_binary ShiftLeft x y = shifted (λ n. x *ℤ pos (2 ^ n)) y
does_binary ShiftRight x y = shifted (λ n. floored_by x (2 ^ n)) y
