-- The digits of a number write it, before whatever is no digit.
use Rattle.std.proofs.Common.{◌≡◌, ℕ, zero, suc, ◌+◌, ◌/◌, ◌%◌, ◌^◌, ◌<◌, ◌≤◌, true, false, ◌==◌, List, [], ◌∷◌, ◌++◌, length, slice_index, take_at, fold, mod-lt, refl, ◌∙◌, arith}
use Rattle.std.specs.List.{list_all}
use Rattle.std.specs.Char.{digit_value}
use Rattle.std.specs.Fmt.{digit_glyph, digits, digits_onto, decimal}
use Rattle.std.specs.Str.Parse.{AllDigits, digits_value_after}
use Rattle.std.proofs.lemmas.Fmt.{digits_is_IsNumeral}
use Rattle.std.proofs.lemmas.Bool.{cond_both, and_from, lt-ltb, le-leb}
use Rattle.iso_model.specs.Syntax.Characters.{is_digit, is_digit_of}
use Rattle.iso_model.specs.Syntax.Numbers.{number_step, number_value, digits_at}
use Rattle.iso_model.proofs.Syntax.RunLexemes.{run_all}

value_after : (base n : ℕ) (ds : List ℕ) → fold (number_step base) n ds ≡ digits_value_after base n ds
value_after base n [] = refl
value_after base n (d ∷ ds) = value_after base (number_step base n d) ds

all_digits : (base : ℕ) (ds : List ℕ) → AllDigits base ds → list_all (is_digit_of base) ds ≡ true
all_digits base [] h = refl
all_digits base (d ∷ ds) h = and_from _ _ (lt-ltb (digit_value d) base h.0) (all_digits base ds h.1)

-- A number's digits in a base.
pub record HasDigits (base n : ℕ) (ds : List ℕ) : Type 0 where
  pub some : 0 < length ds
  pub all : list_all (is_digit_of base) ds ≡ true
  pub value : number_value base ds ≡ n

pub digits_of : (base n : ℕ) → 2 ≤ base → base ≤ 16 → n < base ^ 64 → HasDigits base n (digits base false n)
digits_of base n low high small =
    let h = digits_is_IsNumeral base false low high n small in
    record { some = h.0.0; all = all_digits base (digits base false n) h.0.1; value = value_after base 0 (digits base false n) ∙ h.1 }

-- they are read as the number before anything else
pub digits_read : (base n : ℕ) (ds rest : List ℕ) → HasDigits base n ds → is_digit_of base (slice_index rest 0) ≡ false → digits_at base (ds ++ rest) ≡ record { value = n; len = length ds }
digits_read base n ds rest h stops =
    rw (run_all (is_digit_of base) ds rest h.all stops, take_at ds rest (length ds) refl, h.value) refl

glyph_digit : (d : ℕ) → d < 10 → is_digit (digit_glyph false d) ≡ true
glyph_digit d h = rw (lt-ltb d 10 h) (and_from _ _ (le-leb 48 (48 + d) (omega arith)) (le-leb (48 + d) 57 (omega arith)))

spelled_digits : (k n : ℕ) (after : List ℕ) → list_all is_digit after ≡ true → list_all is_digit (digits_onto k 10 false n after) ≡ true
spelled_digits zero n after h = h
spelled_digits (suc k) n after h =
    let first = glyph_digit (n % 10) (mod-lt n (omega arith)) in
    let more = digit_glyph false (n % 10) ∷ after in
    let all : list_all is_digit more ≡ true = and_from _ _ first h in
    cond_both (n / 10 == 0) more (digits_onto k 10 false (n / 10) more) (λ x. list_all is_digit x ≡ true) (λ _. all) (λ _. spelled_digits k (n / 10) more all)

spelled_some : (k n b : ℕ) (after : List ℕ) → 0 < length (digits_onto k 10 false n (b ∷ after))
spelled_some zero n b after = omega arith
spelled_some (suc k) n b after =
    let more = digit_glyph false (n % 10) ∷ b ∷ after in
    cond_both (n / 10 == 0) more (digits_onto k 10 false (n / 10) more) (λ x. 0 < length x) (λ _. omega arith) (λ _. spelled_some k (n / 10) _ (b ∷ after))

-- what is written of a number, however great, has digits alone
pub decimal_digits : (n : ℕ) → list_all is_digit (decimal n) ≡ true
unfolding digits
decimal_digits n = spelled_digits 64 n [] refl

pub decimal_some : (n : ℕ) → 0 < length (decimal n)
unfolding digits
decimal_some n =
    let first = digit_glyph false (n % 10) ∷ [] in
    cond_both (n / 10 == 0) first (digits_onto 63 10 false (n / 10) first) (λ x. 0 < length x) (λ _. omega arith) (λ _. spelled_some 63 (n / 10) _ [])
