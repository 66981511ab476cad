-- The digits of an integer are one token, with the integer as its value.
use Rattle.std.proofs.Common.{◌≡◌, ℕ, ◌<◌, ◌≤◌, ◌^◌, true, false, ◌&&◌, ◌==◌, List, [], ◌∷◌, ◌++◌, length, slice_index, refl, ap, ◌∙◌, append-nil, Some, None, codes, arith}
use Rattle.std.specs.List.{list_all}
use Rattle.std.specs.Fmt.{decimal}
use Rattle.std.proofs.lemmas.Bool.{cond_both, and_parts, and_from, or_parts, or_from, le-leb}
use Rattle.std.proofs.lemmas.Bool.Decides.{nat_tests}
use Rattle.iso_model.specs.Syntax.Characters.{is_layout, is_small, is_digit, is_digit_of, is_alphanumeric, begins_variable, is_graphic}
use Rattle.iso_model.specs.Syntax.Token.{NameToken, VariableToken, IntegerToken, bounded}
use Rattle.iso_model.specs.Syntax.Numbers.{special, digits_at, integer_at}
use Rattle.iso_model.specs.Syntax.Lexemes.{lexeme}
use Rattle.iso_model.specs.Syntax.Pieces.{run_together, last_byte}
use Rattle.iso_model.proofs.Syntax.RunLexemes.{last_of, Apart, apart_nil, IsLone, IsPair}
use Rattle.iso_model.proofs.Syntax.BareNames.{word_ends, graphic_lone, variable_lone}
use Rattle.iso_model.proofs.Syntax.Digits.{HasDigits, digits_of, digits_read, decimal_digits, decimal_some}

-- what is no part of an integer behind a digit
record IsOff (b : ℕ) : Type 0 where
  quote : (b == 39) ≡ false
  binary : (b == 98) ≡ false
  octal : (b == 111) ≡ false
  hexadecimal : (b == 120) ≡ false

digit_off : (b : ℕ) → is_digit b ≡ true → IsOff b
digit_off b h = record { quote = grind (arith, nat_tests); binary = grind (arith, nat_tests); octal = grind (arith, nat_tests); hexadecimal = grind (arith, nat_tests) }

other_off : (b : ℕ) → (b == 39) ≡ false → is_alphanumeric b ≡ false → IsOff b
other_off b quote h = record { quote = quote; binary = grind (arith, nat_tests); octal = grind (arith, nat_tests); hexadecimal = grind (arith, nat_tests) }

off_special : (z : List ℕ) → IsOff (slice_index z 1) → special z ≡ None
off_special z off =
    cond_both (slice_index z 0 == 48) _ _ (λ x. x ≡ None) (λ _. rw (off.quote, off.binary, off.octal, off.hexadecimal) refl) (λ _. refl)

plain_number : (z : List ℕ) → IsOff (slice_index z 1) → integer_at z ≡ digits_at 10 z
plain_number z off = rw (off_special z off) refl

digit_word : (b : ℕ) → is_digit b ≡ true → is_alphanumeric b ≡ true
digit_word b h = grind (arith, nat_tests)

not_digit : (b : ℕ) → is_alphanumeric b ≡ false → is_digit_of 10 b ≡ false
not_digit b h = grind (arith, nat_tests)

digit_quote : (last first : ℕ) → run_together last first ≡ false → is_digit last ≡ true → (first == 39) ≡ false
digit_quote last first h is =
    let parts = or_parts (is_alphanumeric last && is_alphanumeric first) _ h in
    let others = or_parts (is_graphic last && is_graphic first) _ parts.1 in
    rw is at others.1

second_off : (d : ℕ) (ds rest : List ℕ) → list_all is_digit (d ∷ ds) ≡ true → IsOff (slice_index rest 0) → IsOff (slice_index (d ∷ (ds ++ rest)) 1)
second_off d [] rest all off = off
second_off d (e ∷ ds) rest all off = digit_off e (and_parts _ _ (and_parts (is_digit d) _ all).1).0

digit_first : (b : ℕ) → is_digit b ≡ true → (is_layout b ≡ false) × ((b == 37) ≡ false) × (is_small b ≡ false) × (begins_variable b ≡ false)
digit_first b h = (grind (arith, nat_tests), grind (arith, nat_tests), grind (arith, nat_tests), grind (arith, nat_tests))

integer_lexeme : (z : List ℕ) → is_digit (slice_index z 0) ≡ true → lexeme z ≡ (Some IntegerToken, (integer_at z).len)
unfolding lexeme
integer_lexeme z h = let first = digit_first (slice_index z 0) h in rw (first.0, first.1, first.2, first.3, h) refl

-- digits before what doesn't run together with them
read_before : (n : ℕ) (ds rest : List ℕ) → HasDigits 10 n ds → list_all is_digit ds ≡ true → Apart ds rest → integer_at (ds ++ rest) ≡ record { value = n; len = length ds }
read_before n [] rest h all apart = absurd (omega (arith, h.some))
read_before n (d ∷ ds) rest h all apart =
    let last = last_of is_digit (d ∷ ds) (omega arith) all in
    let first = slice_index rest 0 in
    let quote = digit_quote (last_byte (d ∷ ds)) first apart last in
    let word = word_ends (last_byte (d ∷ ds)) first apart (digit_word (last_byte (d ∷ ds)) last) in
    plain_number (d ∷ (ds ++ rest)) (second_off d ds rest all (other_off first quote word)) ∙ digits_read 10 n (d ∷ ds) rest h (not_digit first word)

lone_digits : (n : ℕ) (ds : List ℕ) → HasDigits 10 n ds → list_all is_digit ds ≡ true → IsLone IntegerToken ds
lone_digits n [] h all = absurd (omega (arith, h.some))
lone_digits n (d ∷ ds) h all = record {
  some = h.some;
  lexes = λ rest apart. integer_lexeme (d ∷ (ds ++ rest)) (and_parts (is_digit d) _ all).0 ∙ ap (λ w. (Some IntegerToken, w.len)) (read_before n (d ∷ ds) rest h all apart);
}

decimal_has : (n : ℕ) → n ≤ 2 ^ 127 → HasDigits 10 n (decimal n)
decimal_has n small = digits_of 10 n (omega arith) (omega arith) (omega arith)

pub integer_lone : (n : ℕ) → n ≤ 2 ^ 127 → IsLone IntegerToken (decimal n)
integer_lone n small = lone_digits n (decimal n) (decimal_has n small) (decimal_digits n)

small_bounded : (n : ℕ) → n ≤ 2 ^ 127 → bounded n ≡ Some n
small_bounded n small = rw (le-leb n (2 ^ 127) small) refl

-- the value of such a token
pub decimal_magnitude : (n : ℕ) → n ≤ 2 ^ 127 → bounded (integer_at (decimal n)).value ≡ Some n
decimal_magnitude n small =
    let read : integer_at (decimal n ++ []) ≡ record { value = n; len = length (decimal n) } = read_before n (decimal n) [] (decimal_has n small) (decimal_digits n) (apart_nil (decimal n)) in
    let same : integer_at (decimal n) ≡ record { value = n; len = length (decimal n) } = rw (append-nil (decimal n)) at read in
    ap (λ w. bounded w.value) same ∙ small_bounded n small

digit_graphic : (b : ℕ) → is_digit b ≡ true → is_graphic b ≡ false
digit_graphic b h = grind (arith, nat_tests)

-- a sign before digits, which are another token
sign_apart : (ds rest : List ℕ) → 0 < length ds → list_all is_digit ds ≡ true → Apart (codes "-") (ds ++ rest)
sign_apart [] rest some all = absurd (omega arith)
sign_apart (d ∷ ds) rest some all = or_from _ _ (digit_graphic d (and_parts (is_digit d) _ all).0) refl

last_behind : (b : ℕ) (ds : List ℕ) → 0 < length ds → last_byte (b ∷ ds) ≡ last_byte ds
last_behind b [] some = absurd (omega arith)
last_behind b (d ∷ ds) some = refl

pub negative_pair : (n : ℕ) → n ≤ 2 ^ 127 → IsPair NameToken (codes "-") IntegerToken (decimal n)
negative_pair n small = record {
  first = graphic_lone 45 [] refl refl refl;
  second = integer_lone n small;
  between = λ rest. sign_apart (decimal n) rest (decimal_some n) (decimal_digits n);
  ends = last_behind 45 (decimal n) (decimal_some n);
}

all_words : (ds : List ℕ) → list_all is_digit ds ≡ true → list_all is_alphanumeric ds ≡ true
all_words [] h = refl
all_words (d ∷ ds) h = let parts = and_parts (is_digit d) _ h in and_from _ _ (digit_word d parts.0) (all_words ds parts.1)

-- a variable's place behind `_`
pub place_lone : (n : ℕ) → IsLone VariableToken (95 ∷ decimal n)
place_lone n = variable_lone (decimal n) (all_words (decimal n) (decimal_digits n))
