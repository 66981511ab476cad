-- The lexeme at the front of a text is of it, and ends at the end of a character.
use Rattle.std.proofs.Common.{◌≡◌, ℕ, ◌+◌, ◌<◌, ◌≤◌, Bool, true, false, ◌&&◌, ◌==◌, List, [], ◌∷◌, length, drop, if◌then◌else◌, slice_index, refl, arith, Some, None, Option, IsUtf8, IsCharBoundary}
use Rattle.std.proofs.lemmas.Bool.{cond_both}
use Rattle.std.proofs.lemmas.Bool.Decides.{nat_tests}
use Rattle.std.specs.Option.{option_map_or}
use Rattle.iso_model.specs.Syntax.Characters.{is_layout, is_small, is_digit, is_alphanumeric, begins_variable, is_graphic, is_punctuation, is_solo, is_in_line, run}
use Rattle.iso_model.specs.Syntax.Token.{TokenKind, QuotedToken, DoubleToken}
use Rattle.iso_model.specs.Syntax.Quoted.{item_len}
use Rattle.iso_model.specs.Syntax.Lexemes.{Lexeme, bad_character, quoted, comment_len, stops_clause, graphic, symbol, lexeme}
use Rattle.iso_model.proofs.Syntax.CutLemmas.{Ends, EndsIn, byte_within, ascii-ends, run-ends, run-some, line-ends, character-ends, ends_later, last-ends}
use Rattle.iso_model.proofs.Syntax.NumberLemmas.{integer-ends}
use Rattle.iso_model.proofs.Syntax.QuotedLemmas.{item-ends}

layout-ascii : (b : ℕ) → is_layout b ≡ true → b < 128
layout-ascii b h = grind (arith, nat_tests)

alphanumeric-ascii : (b : ℕ) → is_alphanumeric b ≡ true → b < 128
alphanumeric-ascii b h = grind (arith, nat_tests)

graphic-ascii : (b : ℕ) → is_graphic b ≡ true → b < 128
graphic-ascii b h = grind (arith, nat_tests)

punctuation-ascii : (b : ℕ) → is_punctuation b ≡ true → b < 128
punctuation-ascii b h = grind (arith, nat_tests)

solo-ascii : (b : ℕ) → is_solo b ≡ true → b < 128
solo-ascii b h = grind (arith, nat_tests)

small_word : (b : ℕ) → is_small b ≡ true → is_alphanumeric b ≡ true
small_word b h = grind (arith, nat_tests)

variable_word : (b : ℕ) → begins_variable b ≡ true → is_alphanumeric b ≡ true
variable_word b h = grind (arith, nat_tests)

percent_in_line : (b : ℕ) → (b == 37) ≡ true → is_in_line b ≡ true
percent_in_line b h = grind (arith, nat_tests)

stop_ascii : (n b : ℕ) (c : Bool) → (n == 1 && (b == 46 && c)) ≡ true → b < 128
stop_ascii n b c h = grind (arith, nat_tests)

star_of : (a b : ℕ) → (a == 47 && b == 42) ≡ true → b ≡ 42
star_of a b h = grind (arith, nat_tests)

second_of : (a b : ℕ) → (a == 42 && b == 47) ≡ true → b ≡ 47
second_of a b h = grind (arith, nat_tests)

-- the lexeme is of the text, and ends where a character does
record EndsLexeme (z : List ℕ) (l : Lexeme) : Type 0 where
  ends : Ends z l.1

ends_if : (z : List ℕ) (b : Bool) (x y : Lexeme) → (b ≡ true → EndsLexeme z x) → (b ≡ false → EndsLexeme z y) → EndsLexeme z (if b then x else y)
ends_if z b x y h g = cond_both b x y (EndsLexeme z) h g

bad-ends : (z : List ℕ) → 0 < length z → EndsLexeme z (bad_character z)
bad-ends z some = record { ends = character-ends z some }

-- a bracketed comment ends in `/`
comment-ends : (z : List ℕ) → EndsIn 47 z (comment_len z)
comment-ends [] = record { ends = tt }
comment-ends (b ∷ z) =
    cond_both (b == 42 && slice_index z 0 == 47) (Some 2) _ (EndsIn 47 (b ∷ z))
    (λ e. let is : slice_index z 0 ≡ 47 = second_of b _ e in
    let inside : 2 ≤ length (b ∷ z) = omega (arith, byte_within z 0 47 is (omega arith)) in
    record { ends = (omega arith, inside, is) })
    (λ _. ends_later 47 b z (comment_len z) (comment-ends z))

commented-ends_by : (z : List ℕ) (o : Option ℕ) → 0 < length z → EndsIn 47 (drop 2 z) o → EndsLexeme z (option_map_or (λ n. (None, 2 + n)) o (bad_character z))
commented-ends_by z None some h = bad-ends z some
commented-ends_by z (Some n) some h = record { ends = last-ends 2 47 z n (omega arith) (omega arith) h }

quoted-ends_by : (kind : TokenKind) (q : ℕ) (z : List ℕ) (o : Option ℕ) → 0 < q → q < 128 → 0 < length z → EndsIn q (drop 1 z) o → EndsLexeme z (option_map_or (λ n. (Some kind, 1 + n)) o (bad_character z))
quoted-ends_by kind q z None some small any h = bad-ends z any
quoted-ends_by kind q z (Some n) some small any h = record { ends = last-ends 1 q z n some small h }

quoted-ends : (kind : TokenKind) (q : ℕ) (z : List ℕ) → 0 < q → q < 128 → 0 < length z → EndsLexeme z (quoted kind q z)
quoted-ends kind q z some small any = quoted-ends_by kind q z (item_len q (drop 1 z)) some small any (item-ends q 0 (drop 1 z) some small)

graphic-ends : (z : List ℕ) → 0 < length z → is_graphic (slice_index z 0) ≡ true → EndsLexeme z (graphic z)
graphic-ends z some first =
    ends_if z (run is_graphic z == 1 && (slice_index z 0 == 46 && stops_clause (drop 1 z))) _ _
    (λ e. record { ends = ascii-ends z 0 some (stop_ascii _ _ _ e) })
    (λ _. record { ends = run-ends is_graphic graphic-ascii z (run-some is_graphic z some first) })

symbol-ends : (z : List ℕ) → 0 < length z → EndsLexeme z (symbol z)
symbol-ends z some =
    let b = slice_index z 0 in
    let one = λ (small : b < 128). ascii-ends z 0 some small in
    ends_if z (b == 47 && slice_index z 1 == 42) _ _ (λ _. commented-ends_by z (comment_len (drop 2 z)) some (comment-ends (drop 2 z))) (λ _.
    ends_if z (is_graphic b) _ _ (λ e. graphic-ends z some e) (λ _.
    ends_if z (is_punctuation b) _ _ (λ e. record { ends = one (punctuation-ascii _ e) }) (λ _.
    ends_if z (is_solo b) _ _ (λ e. record { ends = one (solo-ascii _ e) }) (λ _. bad-ends z some))))

lexeme-ends : (z : List ℕ) → 0 < length z → EndsLexeme z (lexeme z)
unfolding lexeme
lexeme-ends z some =
    let b = slice_index z 0 in
    let word = λ (h : is_alphanumeric b ≡ true). run-ends is_alphanumeric alphanumeric-ascii z (run-some is_alphanumeric z some h) in
    let one = λ (small : b < 128). ascii-ends z 0 some small in
    ends_if z (is_layout b) _ _ (λ e. record { ends = one (layout-ascii _ e) }) (λ _.
    ends_if z (b == 37) _ _ (λ e. record { ends = line-ends z (run-some is_in_line z some (percent_in_line _ e)) }) (λ _.
    ends_if z (is_small b) _ _ (λ e. record { ends = word (small_word b e) }) (λ _.
    ends_if z (begins_variable b) _ _ (λ e. record { ends = word (variable_word b e) }) (λ _.
    ends_if z (is_digit b) _ _ (λ e. record { ends = integer-ends z some e }) (λ _.
    ends_if z (b == 39) _ _ (λ _. quoted-ends QuotedToken 39 z (omega arith) (omega arith) some) (λ _.
    ends_if z (b == 34) _ _ (λ _. quoted-ends DoubleToken 34 z (omega arith) (omega arith) some) (λ _. symbol-ends z some)))))))

-- the lexeme at the front of a text ends where a character does
pub lexeme-cut : (z : List ℕ) → IsUtf8 z → 0 < length z → IsCharBoundary z (lexeme z).1
lexeme-cut z utf8 some = (lexeme-ends z some).ends.cut utf8

-- the lexeme has a byte or more, and no more than the text has
pub lexeme-within : (z : List ℕ) → 0 < length z → (1 ≤ (lexeme z).1) × ((lexeme z).1 ≤ length z)
lexeme-within z some = let h = (lexeme-ends z some).ends in (h.some, h.all)

-- what a byte is that begins a symbol
pub record BeginsSymbol (b : ℕ) : Type 0 where
  pub percent : (b == 37) ≡ false
  pub small : is_small b ≡ false
  pub variable : begins_variable b ≡ false
  pub digit : is_digit b ≡ false
  pub single : (b == 39) ≡ false
  pub double : (b == 34) ≡ false

-- a text that begins with a symbol
pub lexeme-symbol : (z : List ℕ) → is_layout (slice_index z 0) ≡ false → BeginsSymbol (slice_index z 0) → lexeme z ≡ symbol z
unfolding lexeme
lexeme-symbol z layout h = rw (layout, h.percent, h.small, h.variable, h.digit, h.single, h.double) refl
