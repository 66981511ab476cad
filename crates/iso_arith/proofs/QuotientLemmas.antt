-- Quotients that are rounded down, and what they leave.
use Rattle.std.proofs.Common.{◌≡◌, ◌≢◌, ◌*◌, ◌/◌, ◌%◌, ◌<◌, ℕ, zero, suc, true, false, arith, refl, sym, ap}
use Rattle.std.specs.Prelude.{ℤ, pos, negsuc, neg_ℤ, ◌-ℤ◌, ◌+ℤ◌, int_div, int_rem, int_lt, nat_lt, if◌then◌else◌}
use Rattle.std.proofs.lemmas.Int.{ints, quot-rem}
use Rattle.std.proofs.lemmas.Nat.{div-add-mod', mod_below}
use Rattle.std.proofs.lemmas.Bool.Decides.{nat_tests}
use Rattle.std.proofs.Math.Nat.{div-eq_of_lt-le, div-eq_of_lt, mod-eq_of_lt}
use Rattle.std.proofs.Math.IntN.{pred_ℤ-*ℤ, -ℤ_one}
use Rattle.iso_model.specs.Search.Arithmetic.{floored, rest}
use Rattle.iso_arith.specs.Quotients.{is_cut_upwards}

-- ---- the next number, divided

-- it is a multiple
multiple : (q a b : ℕ) → 0 < b → q * b ≡ suc a → q ≡ suc (a / b)
multiple zero a b h e = omega arith
multiple (suc k) a b h e = ap suc (sym (div-eq_of_lt-le {k = k} b {m = a} (omega arith) (omega arith)))

next_whole : (a b : ℕ) → 0 < b → suc a % b ≡ 0 → suc a / b ≡ suc (a / b)
next_whole a b h e = let d = div-add-mod' (suc a) b in multiple (suc a / b) a b h (omega arith)

-- or it is none
next_same : (a b r : ℕ) → 0 < b → suc a % b ≡ suc r → suc a / b ≡ a / b
next_same a b r h e =
    let d = div-add-mod' (suc a) b in
    let below = mod_below (suc a) b h in
    sym (div-eq_of_lt-le {k = suc a / b} b {m = a} (omega arith) (omega arith))

one_less : (q : ℕ) → negsuc q ≡ neg_ℤ (pos q) -ℤ pos 1
one_less zero = refl
one_less (suc q) = omega (arith, ints)

nothing_below : (n : ℕ) → nat_lt n 0 ≡ false
nothing_below n = grind (arith, nat_tests)

something_below : (r : ℕ) → nat_lt 0 (suc r) ≡ true
something_below r = grind (arith, nat_tests)

-- the quotient of a negative number and a positive one, where this is what it leaves
down_by : (a b r : ℕ) → 0 < b → suc a % b ≡ r → negsuc (a / b) ≡ (if nat_lt 0 r then neg_ℤ (pos (suc a / b)) -ℤ pos 1 else neg_ℤ (pos (suc a / b)))
down_by a b zero h e = rw (next_whole a b h e) refl
down_by a b (suc r) h e = rw (next_same a b r h e, something_below r) (one_less (a / b))

-- whether a negative number is below zero, and zero is below one that isn't above it
below_zero : (r : ℕ) → int_lt (neg_ℤ (pos r)) (pos 0) ≡ nat_lt 0 r
below_zero zero = refl
below_zero (suc r) = sym (something_below r)

not_above_zero : (r : ℕ) → int_lt (pos 0) (neg_ℤ (pos r)) ≡ false
not_above_zero zero = refl
not_above_zero (suc r) = refl

none_over : (b : ℕ) → 0 / suc b ≡ 0
none_over b = div-eq_of_lt (omega arith)

none_left : (b : ℕ) → 0 % suc b ≡ 0
none_left b = mod-eq_of_lt (omega arith)

above_zero : (b : ℕ) → pos b ≢ pos 0 → 0 < b
above_zero zero h = absurd (h refl)
above_zero (suc b) h = omega arith

-- the quotient rounded down is that which is cut toward zero, or one less
pub floored_is : (x y : ℤ) → y ≢ pos 0 → floored x y ≡ (if is_cut_upwards x y then int_div x y -ℤ pos 1 else int_div x y)
floored_is (pos a) (pos b) h = rw (nothing_below b, nothing_below (a % b)) refl
floored_is (negsuc a) (pos b) h = rw (nothing_below b, below_zero (suc a % b)) (down_by a b (suc a % b) (above_zero b h) refl)
floored_is (pos zero) (negsuc b) h = rw (none_over b, none_left b) refl
floored_is (pos (suc a)) (negsuc b) h = down_by a (suc b) (suc a % suc b) (omega arith) refl
floored_is (negsuc a) (negsuc b) h = rw (not_above_zero (suc a % suc b)) refl

-- what the quotient that is cut toward zero leaves
pub rest_is : (x y : ℤ) → rest x y (int_div x y) ≡ int_rem x y
rest_is x y = let e = quot-rem x y in omega (arith, ints)

-- what the next lower one leaves
pub rest_below : (x y : ℤ) → rest x y (int_div x y -ℤ pos 1) ≡ int_rem x y +ℤ y
rest_below x y = let e = quot-rem x y in let f = -ℤ_one (int_div x y) in let g = pred_ℤ-*ℤ (int_div x y) y in rw (f, g) (omega (arith, ints))
