-- The integer token that is a whole text.
use Rattle.std.proofs.Common.{◌≡◌, ◌≢◌, ℕ, ◌+◌, ◌<◌, ◌≤◌, ◌==◌, ◌^◌, Bool, true, false, List, [], ◌∷◌, length, take, drop, slice_index, refl, sym, ap, ◌∙◌, subst, arith, Option, Some, None, option_and_then, zero, suc, IsUtf8, IsCharBoundary}
use Rattle.std.proofs.lemmas.Str.{IsCharBoundary-start}
use Rattle.std.proofs.lemmas.Bool.Decides.{nat_tests}
use Rattle.std.proofs.lemmas.List.{length-take-le, take_all}
use Rattle.iso_model.specs.Syntax.Characters.{is_layout, is_small, begins_variable, is_digit, run}
use Rattle.iso_model.specs.Syntax.Numbers.{integer_at}
use Rattle.iso_model.specs.Syntax.Token.{Shown, IntegerToken, bounded, magnitude}
use Rattle.iso_model.specs.Syntax.Tokens.{tokens, tokens_from}
use Rattle.iso_model.specs.Syntax.Lexemes.{lexeme}
use Rattle.iso_model.specs.Search.AtomTexts.{signed, whole_integer, signed_integer}
use Rattle.iso_model.proofs.Syntax.CutLemmas.{run-ends}
use Rattle.iso_model.proofs.Syntax.NumberLemmas.{integer-ends}
use Rattle.iso_model.proofs.Syntax.TokenLemmas.{tokens-token}

digit_first : (b : ℕ) → is_digit b ≡ true → (is_layout b ≡ false) × ((b == 37) ≡ false) × (is_small b ≡ false) × (begins_variable b ≡ false)
digit_first b h = (grind (arith, nat_tests), grind (arith, nat_tests), grind (arith, nat_tests), grind (arith, nat_tests))

integer_lexeme : (z : List ℕ) → is_digit (slice_index z 0) ≡ true → lexeme z ≡ (Some IntegerToken, (integer_at z).len)
unfolding lexeme
integer_lexeme z h = let first = digit_first (slice_index z 0) h in rw (first.0, first.1, first.2, first.3, h) refl

module _ (z : List ℕ) (some : 0 < length z) (first : is_digit (slice_index z 0) ≡ true) where
  -- the first token of the text
  pub integer_first : tokens z ≡ record { kind = IntegerToken; text = take (integer_at z).len z; start = 0; after_layout = false } ∷ tokens_from 0 (0 + (integer_at z).len) false (drop (integer_at z).len z)
  integer_first = tokens-token IntegerToken (integer_at z).len 0 false z some (integer-ends z some first).some (integer_lexeme z first)

  pub no_tokens : (A : Type 0) → tokens z ≡ [] → A
  no_tokens A none = let is = integer_first in cc

  module _ (t : Shown) (others : List Shown) (are : tokens z ≡ t ∷ others) where
    token_is : t ≡ record { kind = IntegerToken; text = take (integer_at z).len z; start = 0; after_layout = false }
    token_is = let is = integer_first in cc

    token_length : length t.text ≡ (integer_at z).len
    token_length =
        let within = (integer-ends z some first).all in
        ap (λ (x : Shown). length x.text) token_is ∙ length-take-le (integer_at z).len z within

    -- it is a part of it
    pub integer_part : length t.text < length z → whole_integer z ≡ None
    integer_part short =
        let long = token_length in
        let other : ((integer_at z).len == length z) ≡ false = grind (arith, nat_tests) in
        rw (first, other) refl

    -- it is the whole text
    pub integer_whole : length z ≤ length t.text → magnitude t ≡ option_and_then bounded (whole_integer z)
    integer_whole long =
        let within = (integer-ends z some first).all in
        let counted = token_length in
        let same : (integer_at z).len ≡ length z = omega (arith, within, counted, long) in
        let test : ((integer_at z).len == length z) ≡ true = grind (arith, nat_tests) in
        ap magnitude token_is ∙ ap (λ n. bounded (integer_at (take n z)).value) same ∙ ap (λ x. bounded (integer_at x).value) (take_all (length z) z (omega arith)) ∙ rw (first, test) refl

-- ---- signs

signed_within : (negative : Bool) (n : ℕ) → option_and_then (signed negative) (bounded n) ≡ signed negative n
signed_within true n = grind (arith, nat_tests)
signed_within false n = grind (arith, nat_tests)

pub signed_bounded : (negative : Bool) (o : Option ℕ) → option_and_then (signed negative) (option_and_then bounded o) ≡ option_and_then (signed negative) o
signed_bounded negative (Some n) = signed_within negative n
signed_bounded negative None = refl

-- what is made of the size that a text writes
pub signed_of : (negative : Bool) (o : Option ℕ) (n : ℕ) → Some n ≡ option_and_then bounded o → signed negative n ≡ option_and_then (signed negative) o
signed_of negative o n is = ap (option_and_then (signed negative)) is ∙ signed_bounded negative o

pub signed_none : (negative : Bool) (o : Option ℕ) → None ≡ option_and_then bounded o → None ≡ option_and_then (signed negative) o
signed_none negative o is = ap (option_and_then (signed negative)) is ∙ signed_bounded negative o

some_within : (m n : ℕ) → Some n ≡ bounded m → n ≤ 2 ^ 127
some_within m n is = grind (arith, nat_tests)

pub size_within : (o : Option ℕ) (n : ℕ) → Some n ≡ option_and_then bounded o → n ≤ 2 ^ 127
size_within (Some m) n is = some_within m n is
size_within None n is = cc

no_sign : (z : List ℕ) → ((rest : List ℕ) → z ≢ 45 ∷ rest) → (slice_index z 0 == 45) ≡ false
no_sign [] h = refl
no_sign (b ∷ z) h = by (b == 45) refl where
  by : (test : Bool) → (b == 45) ≡ test → (b == 45) ≡ false
  by false e = e
  by true e = let is : b ≡ 45 = grind (arith, nat_tests) in absurd (h z (ap (λ x. x ∷ z) is))

-- a text that doesn't begin with a `-`
pub unsigned : (z : List ℕ) → ((rest : List ℕ) → z ≢ 45 ∷ rest) → signed_integer z ≡ option_and_then (signed false) (whole_integer z)
unsigned z h = rw (no_sign z h) refl

-- ---- layout

layout_ascii : (b : ℕ) → is_layout b ≡ true → b < 128
layout_ascii b h = grind (arith, nat_tests)

layout_cut_by : (z : List ℕ) (n : ℕ) → IsUtf8 z → run is_layout z ≡ n → IsCharBoundary z n
layout_cut_by z zero utf8 is = IsCharBoundary-start z utf8
layout_cut_by z (suc n) utf8 is = subst (IsCharBoundary z) is ((run-ends is_layout layout_ascii z (omega (arith, is))).cut utf8)

-- a text may be cut behind the layout that it begins with
pub layout_cut : (z : List ℕ) (n : ℕ) → IsUtf8 z → n ≡ run is_layout z → IsCharBoundary z n
layout_cut z n utf8 is = layout_cut_by z n utf8 (sym is)
