-- Quotients that are cut toward zero, and those that are rounded down.
use Rattle.std.specs.Prelude.{ℤ, pos, int_rem, int_lt, Bool, if◌then◌else◌}

-- whether the quotient is cut upwards where it is cut toward zero: what it leaves has not the divisor's sign
abbrev pub is_cut_upwards : ℤ → ℤ → Bool
is_cut_upwards x y = if int_lt y (pos 0) then int_lt (pos 0) (int_rem x y) else int_lt (int_rem x y) (pos 0)
