-- A number, a character code and an escape end where a character does; and what digits do to a number.
use Rattle.std.proofs.Common.{◌≡◌, ℕ, ◌+◌, ◌<◌, ◌≤◌, Bool, true, false, ◌&&◌, ◌||◌, ◌==◌, nat_lt, if◌then◌else◌, ◌^◌, List, [], ◌∷◌, length, drop, fold, slice_index, refl, sym, ◌∙◌, arith, Option, Some, None, option_map, unwrap_or, IfSome}
use Rattle.std.proofs.lemmas.Bool.{cond_both}
use Rattle.std.proofs.lemmas.Bool.Decides.{nat_tests}
use Rattle.std.proofs.lemmas.List.{drop_more}
use Rattle.std.proofs.Math.Nat.{mul-le-mul_left}
use Rattle.iso_model.specs.Syntax.Characters.{is_digit, is_digit_of, run}
use Rattle.iso_model.specs.Syntax.Token.{bounded}
use Rattle.iso_model.specs.Syntax.Numbers.{Written, number_step, digits_at, is_scalar, sign_code, code_escape, escape, quoted_character, behind_two, based, special, integer_at}
use Rattle.iso_model.proofs.Syntax.CutLemmas.{Ends, byte_within, ascii-ends, run-ends, run-some, character-ends, ends-behind}

digit_of-ascii : (base : ℕ) → base ≤ 36 → (b : ℕ) → is_digit_of base b ≡ true → b < 128
digit_of-ascii base small b h = grind (arith, nat_tests)

decimal : (b : ℕ) → is_digit b ≡ true → is_digit_of 10 b ≡ true
decimal b h = grind (arith, nat_tests)

-- where something is written, it ends so
pub record IfEnds (z : List ℕ) (o : Option Written) : Type 0 where
  pub ends : IfSome o (λ w. Ends z w.len)

nothing : (z : List ℕ) → IfEnds z None
nothing z = record { ends = tt }

written : (z : List ℕ) (value len : ℕ) → Ends z len → IfEnds z (Some (record { value = value; len = len }))
written z value len h = record { ends = h }

if-ends : (z : List ℕ) (b : Bool) (x y : Option Written) → (b ≡ true → IfEnds z x) → (b ≡ false → IfEnds z y) → IfEnds z (if b then x else y)
if-ends z b x y h g = cond_both b x y (IfEnds z) h g

closing : (n at : ℕ) (scalar : Bool) → (nat_lt 0 n && (at == 92 && scalar)) ≡ true → at ≡ 92
closing n at scalar h = grind (arith, nat_tests)

code_escape-ends : (base from : ℕ) (z : List ℕ) → IfEnds z (code_escape base from z)
code_escape-ends base from z =
    let digits = digits_at base (drop from z) in
    if-ends z (nat_lt 0 digits.len && (slice_index z (from + digits.len) == 92 && is_scalar digits.value)) _ _
    (λ e. let is : slice_index z (from + digits.len) ≡ 92 = closing digits.len (slice_index z (from + digits.len)) (is_scalar digits.value) e in
    written z _ _ (ascii-ends z (from + digits.len) (byte_within z _ 92 is (omega arith)) (omega arith)))
    (λ _. nothing z)

sign-ascii : (sign code : ℕ) → sign_code sign ≡ Some code → (0 < sign) × (sign < 128)
sign-ascii sign code h = (grind (arith, nat_tests), grind (arith, nat_tests))

sign-ends : (z : List ℕ) (o : Option ℕ) → sign_code (slice_index z 1) ≡ o → IfEnds z (option_map (λ code. record { value = code; len = 2 }) o)
sign-ends z None is = nothing z
sign-ends z (Some code) is =
    let small = sign-ascii _ code is in written z code 2 (ascii-ends z 1 (byte_within z 1 _ refl small.0) small.1)

pub escape-ends : (z : List ℕ) → IfEnds z (escape z)
escape-ends z =
    if-ends z (slice_index z 1 == 120) _ _ (λ _. code_escape-ends 16 2 z) (λ _.
    if-ends z (is_digit_of 8 (slice_index z 1)) _ _ (λ _. code_escape-ends 8 1 z) (λ _. sign-ends z _ refl))

is-quote : (b : ℕ) → (b == 39) ≡ true → b ≡ 39
is-quote b h = grind (arith, nat_tests)

has-byte : (b n : ℕ) → (b == 10 || n == 0) ≡ false → 0 < n
has-byte b n h = grind (arith, nat_tests)

quoted_character-ends : (z : List ℕ) → IfEnds z (quoted_character z)
quoted_character-ends z =
    let b = slice_index z 0 in
    if-ends z (b == 39) _ _ (λ _.
    if-ends z (slice_index z 1 == 39) _ _
    (λ e. let is = is-quote _ e in written z 39 2 (ascii-ends z 1 (byte_within z 1 39 is (omega arith)) (omega arith)))
    (λ _. nothing z)) (λ _.
    if-ends z (b == 92) _ _ (λ _. escape-ends z) (λ _.
    if-ends z (b == 10 || length z == 0) _ _ (λ _. nothing z) (λ e. written z _ _ (character-ends z (has-byte _ _ e)))))

two-behind : (z : List ℕ) (o : Option Written) → Ends z 2 → IfEnds (drop 2 z) o → IfEnds z (option_map behind_two o)
two-behind z None two h = nothing z
two-behind z (Some w) two h = written z w.value (2 + w.len) (ends-behind z 2 w.len two h.ends)

based-ends : (base : ℕ) (z : List ℕ) → base ≤ 36 → Ends z 2 → IfEnds z (based base z)
based-ends base z small two =
    if-ends z (nat_lt 0 (run (is_digit_of base) (drop 2 z))) _ _
    (λ e. written z _ _ (ends-behind z 2 _ two (run-ends (is_digit_of base) (digit_of-ascii base small) (drop 2 z) (grind (arith, nat_tests)))))
    (λ _. nothing z)

special-ends : (z : List ℕ) → IfEnds z (special z)
special-ends z =
    let letter = slice_index z 1 in
    let two = λ (c : ℕ) (few : 0 < c) (small : c < 128) (e : (letter == c) ≡ true). (let is : letter ≡ c = grind (arith, nat_tests) in let h : Ends z 2 = ascii-ends z 1 (byte_within z 1 c is few) (omega arith) in h) in
    if-ends z (slice_index z 0 == 48) _ _ (λ _.
    if-ends z (letter == 39) _ _ (λ e. two-behind z _ (two 39 (omega arith) (omega arith) e) (quoted_character-ends (drop 2 z))) (λ _.
    if-ends z (letter == 98) _ _ (λ e. based-ends 2 z (omega arith) (two 98 (omega arith) (omega arith) e)) (λ _.
    if-ends z (letter == 111) _ _ (λ e. based-ends 8 z (omega arith) (two 111 (omega arith) (omega arith) e)) (λ _.
    if-ends z (letter == 120) _ _ (λ e. based-ends 16 z (omega arith) (two 120 (omega arith) (omega arith) e)) (λ _. nothing z))))) (λ _. nothing z)

integer-ends_by : (z : List ℕ) (o : Option Written) → IfEnds z o → Ends z (digits_at 10 z).len → Ends z (unwrap_or o (digits_at 10 z)).len
integer-ends_by z None h plain = plain
integer-ends_by z (Some w) h plain = h.ends

-- an integer ends where a character does
pub integer-ends : (z : List ℕ) → 0 < length z → is_digit (slice_index z 0) ≡ true → Ends z (integer_at z).len
integer-ends z some first =
    integer-ends_by z (special z) (special-ends z) (run-ends (is_digit_of 10) (digit_of-ascii 10 (omega arith)) z (run-some (is_digit_of 10) z some (decimal (slice_index z 0) first)))

-- a number doesn't fall by further digits
digits-grow : (base : ℕ) → 1 ≤ base → (digits : List ℕ) (n : ℕ) → n ≤ fold (number_step base) n digits
digits-grow base some [] n = omega arith
digits-grow base some (b ∷ digits) n = omega (arith, mul-le-mul_left n some, digits-grow base some digits (number_step base n b))

-- one digit on
digits-more : (base : ℕ) (digits : List ℕ) (i n : ℕ) → i < length digits
    → fold (number_step base) n (drop i digits) ≡ fold (number_step base) (number_step base n (slice_index digits i)) (drop (i + 1) digits)
digits-more base digits i n within = rw (drop_more digits i 0 within) refl

too_great : (n : ℕ) → 2 ^ 127 < n → bounded n ≡ None
too_great n above = grind (arith, nat_tests)

-- where a digit more is too great, the whole is
pub digits-over : (base : ℕ) → 1 ≤ base → (digits : List ℕ) (i n whole : ℕ) → i < length digits → 2 ^ 128 ≤ number_step base n (slice_index digits i)
    → fold (number_step base) n (drop i digits) ≡ whole → bounded whole ≡ None
digits-over base some digits i n whole within over is =
    let grows = digits-grow base some (drop (i + 1) digits) (number_step base n (slice_index digits i)) in
    too_great whole (omega (arith, grows, sym (digits-more base digits i n within) ∙ is))
