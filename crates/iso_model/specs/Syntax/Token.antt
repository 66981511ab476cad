-- A token as clauses see it (ISO/IEC 13211-1:1995, 6.4).
use Rattle.std.specs.Prelude.{ℕ, ◌+◌, ◌-◌, ◌*◌, Bool, ◌==◌, nat_le, if◌then◌else◌, List, drop, fold, slice_index, Option, Some, None}
use Rattle.iso_model.specs.Terms.Integers.{extent}
use Rattle.iso_model.specs.Syntax.Numbers.{integer_at}
use Rattle.iso_model.specs.Syntax.Quoted.{item_content}

-- The kinds of tokens (6.4). `BadToken` is a character that begins no token (own).
pub data TokenKind : Type 0 where
  NameToken : TokenKind
  QuotedToken : TokenKind
  DoubleToken : TokenKind
  VariableToken : TokenKind
  IntegerToken : TokenKind
  PunctToken : TokenKind
  EndToken : TokenKind
  BadToken : TokenKind

-- A token: its kind, the bytes of its text, the place in the whole text where it begins, and whether layout or a
-- comment stands directly before it.
pub record Shown : Type 0 where
  pub kind : TokenKind
  pub text : List ℕ
  pub start : ℕ
  pub after_layout : Bool

-- the number that decimal digits write, a digit at a time
abbrev pub digit_step : ℕ → ℕ → ℕ
digit_step n digit = n * 10 + (digit - 48)

abbrev pub digits_value : List ℕ → ℕ
digits_value digits = fold digit_step 0 digits

-- the size of an integer, where it is at most that of the least one (own limit)
abbrev pub bounded : ℕ → Option ℕ
bounded n = if nat_le n extent then Some n else None

abbrev pub magnitude_by : TokenKind → List ℕ → Option ℕ
magnitude_by IntegerToken text = bounded (integer_at text).value
magnitude_by _ text = None

-- the value of an integer token (6.4.4); other kinds have none
abbrev pub magnitude : Shown → Option ℕ
magnitude t = magnitude_by t.kind t.text

-- the characters of an item that begins with such a quote; any other text stands for itself
abbrev pub unquoted : ℕ → List ℕ → List ℕ
unquoted quote text = if slice_index text 0 == quote then item_content quote (drop 1 text) else text

abbrev pub content_of : TokenKind → List ℕ → List ℕ
content_of QuotedToken text = unquoted 39 text
content_of DoubleToken text = unquoted 34 text
content_of _ text = text

-- the characters that a token stands for: those of a quoted item (6.4.2.1, 6.4.6); of other kinds, its text
abbrev pub content : Shown → List ℕ
content t = content_of t.kind t.text
