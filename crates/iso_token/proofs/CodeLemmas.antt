-- The code of the first character of a text, by its bytes.
use Rattle.std.proofs.Common.{◌≡◌, ℕ, zero, suc, ◌+◌, ◌-◌, ◌*◌, ◌<◌, ◌≤◌, List, [], ◌∷◌, length, slice_index, refl, arith}
use Rattle.std.proofs.lemmas.Bool.{lt-ltb, le-ltb}
use Rattle.std.specs.Str.{chars, chars_after, continuation_len, lead_bits}

after_all : (c : ℕ) (z : List ℕ) → slice_index (chars_after zero c z) 0 ≡ c
after_all c [] = refl
after_all c (b ∷ z) = refl

after_none : (n c : ℕ) (z : List ℕ) → length z < n → slice_index (chars_after n c z) 0 ≡ 0
after_none zero c z few = absurd (omega arith)
after_none (suc n) c [] few = refl
after_none (suc n) c (b ∷ z) few = after_none n (c * 64 + (b - 128)) z (omega arith)

-- a text that breaks off in its first character
pub code_short : (z : List ℕ) → length z ≤ continuation_len (slice_index z 0) → slice_index (chars z) 0 ≡ 0
unfolding chars
code_short [] few = refl
code_short (b ∷ z) few = after_none (continuation_len b) (lead_bits b) z (omega arith)

pub code_one : (z : List ℕ) → 1 ≤ length z → slice_index z 0 < 128 → slice_index (chars z) 0 ≡ slice_index z 0
unfolding chars
code_one [] long small = absurd (omega arith)
code_one (a ∷ z) long small = rw (lt-ltb a 128 small) (after_all a z)

pub code_two : (z : List ℕ) → 2 ≤ length z → 128 ≤ slice_index z 0 → slice_index z 0 < 224 → slice_index (chars z) 0 ≡ (slice_index z 0 - 192) * 64 + (slice_index z 1 - 128)
unfolding chars
code_two [] long great small = absurd (omega arith)
code_two (a ∷ []) long great small = absurd (omega arith)
code_two (a ∷ b ∷ z) long great small = rw (le-ltb a 128 great, lt-ltb a 224 small) (after_all _ z)

pub code_three : (z : List ℕ) → 3 ≤ length z → 224 ≤ slice_index z 0 → slice_index z 0 < 240
    → slice_index (chars z) 0 ≡ ((slice_index z 0 - 224) * 64 + (slice_index z 1 - 128)) * 64 + (slice_index z 2 - 128)
unfolding chars
code_three [] long great small = absurd (omega arith)
code_three (a ∷ []) long great small = absurd (omega arith)
code_three (a ∷ b ∷ []) long great small = absurd (omega arith)
code_three (a ∷ b ∷ c ∷ z) long great small =
    let above : 128 ≤ a = omega arith in rw (le-ltb a 128 above, le-ltb a 224 great, lt-ltb a 240 small) (after_all _ z)

pub code_four : (z : List ℕ) → 4 ≤ length z → 240 ≤ slice_index z 0
    → slice_index (chars z) 0 ≡ (((slice_index z 0 - 240) * 64 + (slice_index z 1 - 128)) * 64 + (slice_index z 2 - 128)) * 64 + (slice_index z 3 - 128)
unfolding chars
code_four [] long great = absurd (omega arith)
code_four (a ∷ []) long great = absurd (omega arith)
code_four (a ∷ b ∷ []) long great = absurd (omega arith)
code_four (a ∷ b ∷ c ∷ []) long great = absurd (omega arith)
code_four (a ∷ b ∷ c ∷ d ∷ z) long great =
    let low : 128 ≤ a = omega arith in let middle : 224 ≤ a = omega arith in rw (le-ltb a 128 low, le-ltb a 224 middle, le-ltb a 240 great) (after_all _ z)
