-- What stands at the front of a text: the longest token, or layout (ISO/IEC 13211-1:1995, 6.4).
use Rattle.std.specs.Prelude.{ℕ, suc, ◌+◌, Bool, true, ◌&&◌, ◌||◌, ◌==◌, if◌then◌else◌, List, [], ◌∷◌, drop, slice_index, Option, Some, None, option_map, codes}
use Rattle.std.specs.Option.{option_map_or}
use Rattle.iso_model.specs.Syntax.Characters.{is_layout, is_small, is_digit, is_alphanumeric, begins_variable, is_graphic, is_punctuation, is_solo, is_in_line, character_len, run, byte_of, quote, double_quote}
use Rattle.iso_model.specs.Syntax.Token.{TokenKind, NameToken, QuotedToken, DoubleToken, VariableToken, IntegerToken, PunctToken, EndToken, BadToken}
use Rattle.iso_model.specs.Syntax.Numbers.{integer_at}
use Rattle.iso_model.specs.Syntax.Quoted.{item_len}

-- a token's kind, or none for layout and comments, and a length in bytes
abbrev pub Lexeme : Type 0
Lexeme = Option TokenKind × ℕ

-- one character that begins no token (own)
abbrev pub bad_character : List ℕ → Lexeme
bad_character text = (Some BadToken, character_len text)

-- a text that begins with a quote: an item of this kind, or a bad character where it isn't well closed
abbrev pub quoted : TokenKind → ℕ → List ℕ → Lexeme
quoted kind sign text = option_map_or (λ n. (Some kind, 1 + n)) (item_len sign (drop 1 text)) (bad_character text)

-- how far a bracketed comment goes on to the end of its first `*/`, if it has one (6.4.1)
abbrev pub comment_len : List ℕ → Option ℕ
comment_len [] = None
comment_len (byte ∷ text) = if byte == byte_of (codes "*") && slice_index text 0 == byte_of (codes "/") then Some 2 else option_map suc (comment_len text)

-- a text that begins with `/*`: a comment, or a bad character where it has no end
abbrev pub commented : List ℕ → Lexeme
commented text = option_map_or (λ n. (None, 2 + n)) (comment_len (drop 2 text)) (bad_character text)

-- what must stand behind a full stop that ends a clause (6.4.8): layout, `%` or nothing
abbrev pub stops_clause : List ℕ → Bool
stops_clause [] = true
stops_clause (byte ∷ text) = is_layout byte || byte == byte_of (codes "%")

-- a run of graphic characters: a name (6.4.2), or the end token (6.4.8)
abbrev pub graphic : List ℕ → Lexeme
graphic text =
    let n = run is_graphic text in
    if n == 1 && (slice_index text 0 == byte_of (codes ".") && stops_clause (drop 1 text)) then (Some EndToken, 1) else (Some NameToken, n)

-- a text that begins with none of layout, `%`, letters, `_`, digits and quotes
abbrev pub symbol : List ℕ → Lexeme
symbol text =
    let byte = slice_index text 0 in
    if byte == byte_of (codes "/") && slice_index text 1 == byte_of (codes "*") then commented text
    else (if is_graphic byte then graphic text
    else (if is_punctuation byte then (Some PunctToken, 1)
    else (if is_solo byte then (Some NameToken, 1)
    else bad_character text)))

-- the lexeme at the front of a text that isn't empty
unfoldable pub lexeme : List ℕ → Lexeme
lexeme text =
    let byte = slice_index text 0 in
    if is_layout byte then (None, 1)
    else (if byte == byte_of (codes "%") then (None, run is_in_line text)
    else (if is_small byte then (Some NameToken, run is_alphanumeric text)
    else (if begins_variable byte then (Some VariableToken, run is_alphanumeric text)
    else (if is_digit byte then (Some IntegerToken, (integer_at text).len)
    else (if byte == quote then quoted QuotedToken quote text
    else (if byte == double_quote then quoted DoubleToken double_quote text
    else symbol text))))))
