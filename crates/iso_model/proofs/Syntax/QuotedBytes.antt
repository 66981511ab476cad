-- Each byte of a quoted name is read as itself: a letter behind a backslash, a code in digits, or the byte.
use Rattle.std.proofs.Common.{◌≡◌, ℕ, ◌+◌, ◌<◌, true, false, ◌&&◌, ◌||◌, ◌==◌, nat_lt, if◌then◌else◌, List, [], ◌∷◌, ◌++◌, length, length-append, slice_index, drop, refl, ap, ◌∙◌, append_assoc, Option, Some, None, encode_utf8, arith, ⊎_elim}
use Rattle.std.specs.Fmt.{digits}
use Rattle.std.proofs.lemmas.Bool.{cond_both, or_parts, lt-ltb, eqb-true, or_cases}
use Rattle.std.proofs.lemmas.Bool.Decides.{nat_tests}
use Rattle.std.proofs.lemmas.List.{get_or_at}
use Rattle.std.proofs.lemmas.Str.{encode_ascii}
use Rattle.iso_model.specs.Syntax.Characters.{is_continuation}
use Rattle.iso_model.specs.Syntax.Numbers.{Written, digits_at, is_scalar, code_escape}
use Rattle.iso_model.specs.Syntax.Quoted.{Stands, escaped, piece_at}
use Rattle.iso_model.specs.Syntax.Texts.{quoted_byte}
use Rattle.iso_model.specs.Syntax.Texts as texts
use Rattle.iso_model.proofs.Syntax.Digits.{digits_of, digits_read}

-- How a byte is written within quotes: as it is, or by these bytes behind a backslash, which stand for it.
pub data Spelled (b : ℕ) (text : List ℕ) : Type 0 where
  as_it_is : text ≡ b ∷ [] → (b == 39) ≡ false → (b == 10) ≡ false → (b == 92) ≡ false → Spelled b text
  by_escape : (behind : List ℕ) → text ≡ 92 ∷ behind → is_continuation b ≡ false
      → ((rest : List ℕ) → piece_at 39 (92 ∷ (behind ++ rest)) ≡ Stands (b ∷ []) (1 + length behind)) → Spelled b text

-- a byte of a sign: `\a \b \t \n \v \f \r`, the quote and the backslash
sign_spelled : (b code sign : ℕ) → (b == code) ≡ true → code < 128 → is_continuation code ≡ false → ((rest : List ℕ) → piece_at 39 (92 ∷ sign ∷ rest) ≡ Stands (encode_utf8 code) 2) → Spelled b (texts.escaped sign)
sign_spelled b code sign e small first is =
    let same : b ≡ code = eqb-true b code e in
    rw same (by_escape (sign ∷ []) refl first (λ rest. is rest ∙ ap (λ x. Stands x 2) (encode_ascii code small)))

abbrev code_by : List ℕ → Written → Option Written
code_by text code =
    if nat_lt 0 code.len && (slice_index text (2 + code.len) == 92 && is_scalar code.value) then Some (record { value = code.value; len = 2 + code.len + 1 }) else None

code_is : (n len : ℕ) (text : List ℕ) → digits_at 16 (drop 2 text) ≡ record { value = n; len = len } → 0 < len → slice_index text (2 + len) ≡ 92 → is_scalar n ≡ true
    → code_escape 16 2 text ≡ Some (record { value = n; len = 2 + len + 1 })
code_is n len text read some closes scalar = ap (code_by text) read ∙ rw (closes, lt-ltb 0 len some, scalar) refl

escaped_piece : (rest : List ℕ) (w : Written) → code_escape 16 2 (92 ∷ 120 ∷ rest) ≡ Some w → piece_at 39 (92 ∷ 120 ∷ rest) ≡ Stands (encode_utf8 w.value) w.len
unfolding piece_at
escaped_piece rest w is = ap escaped is

ascii_scalar : (n : ℕ) → n < 128 → is_scalar n ≡ true
ascii_scalar n h = grind (arith, nat_tests)

-- the digits of a code, between `\x` and a backslash
code_read : (b : ℕ) (rest : List ℕ) → b < 128 → piece_at 39 (92 ∷ 120 ∷ (digits 16 false b ++ 92 ∷ rest)) ≡ Stands (b ∷ []) (2 + length (digits 16 false b) + 1)
code_read b rest small =
    let ds = digits 16 false b in
    let has = digits_of 16 b (omega arith) (omega arith) (omega arith) in
    let text = 92 ∷ 120 ∷ (ds ++ 92 ∷ rest) in
    let read : digits_at 16 (ds ++ 92 ∷ rest) ≡ record { value = b; len = length ds } = digits_read 16 b ds (92 ∷ rest) has refl in
    let closes : slice_index text (2 + length ds) ≡ 92 = get_or_at (92 ∷ 120 ∷ ds) 92 rest 0 (2 + length ds) (omega arith) in
    escaped_piece (ds ++ 92 ∷ rest) (record { value = b; len = 2 + length ds + 1 }) (code_is b (length ds) text read has.some closes (ascii_scalar b small))
    ∙ ap (λ x. Stands x (2 + length ds + 1)) (encode_ascii b small)

code_small : (b : ℕ) → (nat_lt b 32 || b == 127) ≡ true → (b < 128) × (is_continuation b ≡ false)
code_small b h = (grind (arith, nat_tests), grind (arith, nat_tests))

code_spelled : (b : ℕ) → (nat_lt b 32 || b == 127) ≡ true → Spelled b (92 ∷ 120 ∷ (digits 16 false b ++ 92 ∷ []))
code_spelled b h =
    let ds = digits 16 false b in
    let small = code_small b h in
    let len : 2 + length ds + 1 ≡ 1 + length (120 ∷ (ds ++ 92 ∷ [])) = omega (arith, length-append ds (92 ∷ [])) in
    by_escape (120 ∷ (ds ++ 92 ∷ [])) refl small.1 (λ rest.
    ap (λ x. piece_at 39 (92 ∷ 120 ∷ x)) (append_assoc ds (92 ∷ []) rest) ∙ code_read b rest small.0 ∙ ap (Stands (b ∷ [])) len)

mark_spelled : (b : ℕ) → (b == 92 || b == 39) ≡ true → Spelled b (texts.escaped b)
unfolding piece_at
mark_spelled b h =
    ⊎_elim
    (λ e. let same : b ≡ 92 = eqb-true b 92 e in rw same (sign_spelled 92 92 92 refl (omega arith) refl (λ _. refl)))
    (λ e. let same : b ≡ 39 = eqb-true b 39 e in rw same (sign_spelled 39 39 39 refl (omega arith) refl (λ _. refl)))
    (or_cases (b == 92) (b == 39) h)

-- a byte is written so that it is read as itself
pub spelled : (b : ℕ) → Spelled b (quoted_byte b)
unfolding piece_at
spelled b =
    cond_both (b == 92 || b == 39) _ _ (Spelled b) (λ e. mark_spelled b e) (λ first.
    cond_both (b == 7) _ _ (Spelled b) (λ e. sign_spelled b 7 97 e (omega arith) refl (λ _. refl)) (λ _.
    cond_both (b == 8) _ _ (Spelled b) (λ e. sign_spelled b 8 98 e (omega arith) refl (λ _. refl)) (λ _.
    cond_both (b == 9) _ _ (Spelled b) (λ e. sign_spelled b 9 116 e (omega arith) refl (λ _. refl)) (λ _.
    cond_both (b == 10) _ _ (Spelled b) (λ e. sign_spelled b 10 110 e (omega arith) refl (λ _. refl)) (λ ten.
    cond_both (b == 11) _ _ (Spelled b) (λ e. sign_spelled b 11 118 e (omega arith) refl (λ _. refl)) (λ _.
    cond_both (b == 12) _ _ (Spelled b) (λ e. sign_spelled b 12 102 e (omega arith) refl (λ _. refl)) (λ _.
    cond_both (b == 13) _ _ (Spelled b) (λ e. sign_spelled b 13 114 e (omega arith) refl (λ _. refl)) (λ _.
    cond_both (nat_lt b 32 || b == 127) _ _ (Spelled b) (λ e. code_spelled b e)
    (λ _. let parts = or_parts (b == 92) (b == 39) first in as_it_is refl parts.1 ten parts.0)))))))))
