-- Values in range.
use Rattle.std.proofs.Common.{◌≡◌, ◌^◌, ◌<◌, Option, Some, None, Ok, Err, true, false, arith, refl, sym, ap, ◌∙◌}
use Rattle.std.specs.Prelude.{ℤ, pos, negsuc, FitsSigned, ok_or}
use Rattle.std.specs.Option.{SomeIff}
use Rattle.std.specs.Int.{w128}
use Rattle.std.proofs.lemmas.Bool.Decides.{nat_tests}
use Rattle.iso_model.specs.Search.Arithmetic.{Value, in_range, overflow}
use Rattle.iso_model.specs.Terms.Integers.{fits}
use Rattle.iso_arith.specs.declared.faults.Refusal.TheVariants.{Overflow}
use Rattle.iso_arith.specs.Faults.{value_of}

pub fits_yes : (z : ℤ) → FitsSigned w128 z → fits z ≡ true
fits_yes (pos n) h = let b = h.sfits in grind (arith, nat_tests)
fits_yes (negsuc n) h = let b = h.sfits in grind (arith, nat_tests)

pub fits_no : (z : ℤ) → ¬ FitsSigned w128 z → fits z ≡ false
fits_no (pos n) h = let b : n < 2 ^ 127 → ⊥ = λ l. h (record { sfits = l }) in grind (arith, nat_tests)
fits_no (negsuc n) h = let b : n < 2 ^ 127 → ⊥ = λ l. h (record { sfits = l }) in grind (arith, nat_tests)

-- a number that fits is in range
pub in_range_yes : (z : ℤ) → FitsSigned w128 z → in_range z ≡ Ok z
in_range_yes z h = rw (fits_yes z h) refl

pub in_range_no : (z : ℤ) → ¬ FitsSigned w128 z → in_range z ≡ Err overflow
in_range_no z h = rw (fits_no z h) refl

-- what a checked operation gives
pub checked_is : (r : Option ℤ) (z : ℤ) → SomeIff r (FitsSigned w128 z) z → value_of (ok_or r Overflow) ≡ in_range z
checked_is None z h = sym (in_range_no z h)
checked_is (Some x) z h = ap (λ (n : ℤ). let v : Value = Ok n in v) h.1 ∙ sym (in_range_yes z h.0)
