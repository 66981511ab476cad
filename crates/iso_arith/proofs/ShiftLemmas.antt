-- Shifts as products with a power of two.
use Rattle.std.proofs.Common.{◌≡◌, ◌*◌, ◌^◌, ◌%◌, ◌<◌, ℕ, Option, true, arith, ap, ◌∙◌}
use Rattle.std.specs.Prelude.{ℤ, pos, ◌*ℤ◌, FitsSigned, ok_or, nat_lt}
use Rattle.std.specs.Option.{SomeIff}
use Rattle.std.specs.Int.{w128, cast_signed, cast_unsigned}
use Rattle.std.proofs.lemmas.Int.{to_z-of_z, to_z_pos}
use Rattle.std.proofs.lemmas.Nat.{one_shl, pow_below}
use Rattle.std.proofs.lemmas.Bool.Decides.{nat_tests}
use Rattle.iso_model.specs.Search.Arithmetic.{shifted}
use Rattle.iso_arith.specs.declared.faults.Refusal.TheVariants.{Overflow}
use Rattle.iso_arith.specs.Faults.{value_of}
use Rattle.iso_arith.proofs.RangeLemmas.{checked_is}

-- one, shifted by less than 127
one_shifted : (n : ℕ) → n < 127 → cast_signed w128 ((1 * 2 ^ n) % 2 ^ 128) ≡ pos (2 ^ n)
one_shifted n h = ap (cast_signed w128) (one_shl n 128 (omega arith)) ∙ to_z_pos w128 (2 ^ n) (pow_below n 127 h)

-- a checked product with it
pub product_is : (r : Option ℤ) (x : ℤ) (y : ℤ) (n : ℕ) → FitsSigned w128 x → y ≡ pos n → n < 127
    → let z = cast_signed w128 (cast_unsigned w128 x) *ℤ cast_signed w128 ((1 * 2 ^ cast_unsigned w128 y) % 2 ^ 128) in SomeIff r (FitsSigned w128 z) z
    → value_of (ok_or r Overflow) ≡ shifted (λ m. x *ℤ pos (2 ^ m)) y
product_is r x y n fits is below h =
    let few : nat_lt n 128 ≡ true = grind (arith, nat_tests) in
    let same : cast_signed w128 (cast_unsigned w128 x) ≡ x = to_z-of_z w128 x fits in
    let power = one_shifted n below in
    rw (is, few) (checked_is r (x *ℤ pos (2 ^ n)) (rw (is, same, power) at h))
