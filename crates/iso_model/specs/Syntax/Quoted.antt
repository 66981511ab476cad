-- Quoted items (ISO/IEC 13211-1:1995, 6.4.2.1 and 6.4.6), piece by piece.
use Rattle.std.specs.Prelude.{ℕ, zero, suc, ◌-◌, ◌==◌, if◌then◌else◌, List, [], ◌∷◌, ◌++◌, take, slice_index, encode_utf8, Option, Some, None, option_map}
use Rattle.iso_model.specs.Syntax.Characters.{character_len, newline, backslash}
use Rattle.iso_model.specs.Syntax.Numbers.{Written, escape}

-- What may stand at a place within quotes: the quote that closes the item, a piece that stands for these bytes and is
-- so long, or nothing that may.
pub data QuotedPiece : Type 0 where
  Closes : QuotedPiece
  Stands : (content : List ℕ) → (len : ℕ) → QuotedPiece
  Broken : QuotedPiece

abbrev pub escaped : Option Written → QuotedPiece
escaped None = Broken
escaped (Some w) = Stands (encode_utf8 w.value) w.len

-- The piece at the front of a text that isn't empty, between such quotes. A backslash before a newline stands for
-- nothing.
unfoldable pub piece_at : ℕ → List ℕ → QuotedPiece
piece_at quote text =
    let byte = slice_index text 0 in
    if byte == quote then (if slice_index text 1 == quote then Stands (quote ∷ []) 2 else Closes)
    else (if byte == newline then Broken
    else (if byte == backslash then (if slice_index text 1 == newline then Stands [] 2 else escaped (escape text))
    else Stands (take (character_len text) text) (character_len text)))

abbrev pub len_by : QuotedPiece → (ℕ → Option ℕ) → Option ℕ
len_by Closes others = Some 1
len_by Broken others = None
len_by (Stands content len) others = others (len - 1)

-- how long the rest of an item is, with the quote that closes it, if one does; so many bytes are left of a piece
unfoldable pub len_from : ℕ → ℕ → List ℕ → Option ℕ
len_from quote left [] = None
len_from quote (suc left) (byte ∷ text) = option_map suc (len_from quote left text)
len_from quote zero (byte ∷ text) = len_by (piece_at quote (byte ∷ text)) (λ left. option_map suc (len_from quote left text))

abbrev pub content_by : QuotedPiece → (ℕ → List ℕ) → List ℕ
content_by Closes others = []
content_by Broken others = []
content_by (Stands content len) others = content ++ others (len - 1)

-- the characters that the rest of an item stands for; so many bytes are left of a piece
unfoldable pub content_from : ℕ → ℕ → List ℕ → List ℕ
content_from quote left [] = []
content_from quote (suc left) (byte ∷ text) = content_from quote left text
content_from quote zero (byte ∷ text) = content_by (piece_at quote (byte ∷ text)) (λ left. content_from quote left text)

-- how long the item behind an opening quote is
abbrev pub item_len : ℕ → List ℕ → Option ℕ
item_len quote text = len_from quote 0 text

-- the characters of the item behind an opening quote
abbrev pub item_content : ℕ → List ℕ → List ℕ
item_content quote text = content_from quote 0 text
