-- Powers, in range and out of it.
use Rattle.std.proofs.Common.{◌≡◌, ◌≢◌, ◌^◌, ◌%◌, ◌<◌, ◌≤◌, ℕ, zero, suc, Ok, Err, false, arith, refl, inl, inr, eqb}
use Rattle.std.specs.Prelude.{ℤ, pos, negsuc, neg_ℤ, unsigned_abs, FitsSigned}
use Rattle.std.specs.Int.{w128, int_pow}
use Rattle.std.proofs.lemmas.Bool.{cases_Bool}
use Rattle.std.proofs.lemmas.Bool.Decides.{nat_tests}
use Rattle.std.proofs.Math.Nat.{pow-le-pow_left, pow-le-pow_right, pow-zero, pow-suc}
use Rattle.iso_model.specs.Search.Arithmetic.{in_range, overflow}
use Rattle.iso_arith.proofs.RangeLemmas.{in_range_no}

-- a number that is further from 0 than the least one is out of range
pub too_far : (z : ℤ) → 2 ^ 127 < unsigned_abs z → ¬ FitsSigned w128 z
too_far (pos n) far fits = let below = fits.sfits in omega arith
too_far (negsuc n) far fits = let below = fits.sfits in omega arith

pub abs-neg : (n : ℕ) → unsigned_abs (neg_ℤ (pos n)) ≡ n
abs-neg zero = refl
abs-neg (suc n) = refl

-- how far a power is from 0
pub abs-pow : (x : ℤ) (e : ℕ) → unsigned_abs (int_pow x e) ≡ unsigned_abs x ^ e
abs-pow (pos a) e = refl
abs-pow (negsuc a) e = elim (cases_Bool (eqb (e % 2) 0)) [ inl even ↦ rw even refl | inr odd ↦ rw odd (abs-neg (suc a ^ e)) ]

zero-pow : (e : ℕ) → 0 ^ suc e ≡ 0
zero-pow e = let more = pow-suc 0 e in omega arith

one-pow : (e : ℕ) → 1 ^ e ≡ 1
one-pow zero = pow-zero 1
one-pow (suc e) = let more = pow-suc 1 e in let before = one-pow e in omega arith

pub zero_power : (e : ℕ) → e ≢ 0 → in_range (int_pow (pos 0) e) ≡ Ok (pos 0)
zero_power zero h = absurd (h refl)
zero_power (suc e) h = rw (zero-pow e) refl

pub one_power : (e : ℕ) → in_range (int_pow (pos 1) e) ≡ Ok (pos 1)
one_power e = rw (one-pow e) refl

pub even_power : (e : ℕ) → e % 2 ≡ 0 → in_range (int_pow (negsuc 0) e) ≡ Ok (pos 1)
even_power e h = rw (h, one-pow e) refl

pub odd_power : (e : ℕ) → e % 2 ≢ 0 → in_range (int_pow (negsuc 0) e) ≡ Ok (negsuc 0)
odd_power e h = let no : eqb (e % 2) 0 ≡ false = grind (arith, nat_tests) in rw (no, one-pow e) refl

pub large_power : (x : ℤ) (e : ℕ) → 1 < unsigned_abs x → 128 ≤ e → in_range (int_pow x e) ≡ Err overflow
large_power x e some many =
    let one = pow-le-pow_left {n = 2} {m = unsigned_abs x} (omega arith) e in
    let two = pow-le-pow_right {n = 2} (omega arith) {i = 128} {j = e} many in
    in_range_no (int_pow x e) (too_far (int_pow x e) (rw (abs-pow x e) (omega arith)))
