-- Which integers there are (ISO/IEC 13211-1:1995, 7.1.2; own limits).
use Rattle.std.specs.Prelude.{ℕ, ℤ, pos, negsuc, ◌^◌, Bool, nat_lt}

-- whether an integer is from -n to n - 1, where `negsuc k` is -(k + 1)
abbrev pub is_within : ℕ → ℤ → Bool
is_within n (pos k) = nat_lt k n
is_within n (negsuc k) = nat_lt k n

-- how far the integers go down from 0: they have 128 bits in two's complement
abbrev pub extent : ℕ
extent = 2 ^ 127

-- whether a number is an integer of the language
abbrev pub fits : ℤ → Bool
fits = is_within extent

-- whether it has 64 bits
abbrev pub is_short : ℤ → Bool
is_short = is_within (2 ^ 63)
