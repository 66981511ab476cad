-- What a toplevel takes as the text of queries (own): whole lines, until their tokens end with an end token.
use Rattle.std.specs.Prelude.{ℕ, Bool, true, false, ◌==◌, ◌||◌, List, [], ◌∷◌, codes, if◌then◌else◌}
use Rattle.std.specs.Str.{bytes_eq}
use Rattle.iso_model.specs.Syntax.Token.{TokenKind, EndToken, BadToken, Shown}
use Rattle.iso_model.specs.Syntax.Tokens.{tokens}

abbrev pub is_end : TokenKind → Bool
is_end EndToken = true
is_end other = false

-- Where a comment isn't closed, the `/` that it begins with is a bad character, and nowhere else.
abbrev pub opens_by : TokenKind → List ℕ → Bool
opens_by BadToken text = bytes_eq text (codes "/")
opens_by kind text = false

-- whether a token begins a comment that isn't closed
abbrev pub opens_comment : Shown → Bool
opens_comment t = opens_by t.kind t.text

-- Whether these tokens are whole queries, behind tokens that are or aren't: no comment is open, and the last one is an
-- end token.
abbrev pub whole_behind : Bool → List Shown → Bool
whole_behind whole [] = whole
whole_behind whole (t ∷ ts) = if opens_comment t then false else whole_behind (is_end t.kind) ts

-- whether the text is whole queries, or has none
abbrev pub is_whole : List ℕ → Bool
is_whole text = whole_behind true (tokens text)

-- what is shown before a line is read: the first of a text, or another one
abbrev pub prompt : List ℕ → List ℕ
prompt [] = codes "?- "
prompt (b ∷ text) = codes "|  "

-- whether what a person types behind an answer asks for the next one: `;`, or a space
abbrev pub asks_next : List ℕ → Bool
asks_next [] = false
asks_next (b ∷ z) = (b == 59) || (b == 32)
