-- What clauses see of the pieces of a quoted item.
use Rattle.std.specs.Prelude.{ℕ, ◌≤◌, List, [], take, encode_utf8}
use Rattle.iso_model.specs.Syntax.Quoted as quoted
use Rattle.iso_token.specs.declared.quoted.QuotedPiece.{QuotedPiece}
use Rattle.iso_token.specs.declared.quoted.QuotedPiece.TheVariants as piece

-- how long a piece is
abbrev pub len_of : QuotedPiece → ℕ
len_of piece.Closes = 1
len_of (piece.Plain len) = len
len_of (piece.Escaped e) = e.len
len_of piece.Continuation = 2
len_of piece.Broken = 1

-- what a piece of this text stands for
abbrev pub stood_for : QuotedPiece → List ℕ → List ℕ
stood_for (piece.Plain len) text = text
stood_for (piece.Escaped e) text = encode_utf8 e.character
stood_for _ text = []

-- the piece that a Rust piece at the front of a text is
abbrev pub piece_of : List ℕ → QuotedPiece → quoted.QuotedPiece
piece_of text piece.Closes = quoted.Closes
piece_of text (piece.Plain len) = quoted.Stands (take len text) len
piece_of text (piece.Escaped e) = quoted.Stands (encode_utf8 e.character) e.len
piece_of text piece.Continuation = quoted.Stands [] 2
piece_of text piece.Broken = quoted.Broken

-- the piece has a byte or more, and no more than there are
abbrev pub IsWithin : ℕ → QuotedPiece → Type 0
IsWithin bytes p = (1 ≤ len_of p) × (len_of p ≤ bytes)
