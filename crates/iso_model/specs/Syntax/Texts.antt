-- The text of names, in quotes where they need them, and of variables and numbered variables (ISO/IEC 13211-1:1995,
-- 7.10.5; how variables are named is own).
use Rattle.std.specs.Prelude.{ℕ, ◌+◌, ◌/◌, ◌%◌, List, [], ◌∷◌, ◌++◌, Bool, false, ◌&&◌, ◌||◌, ◌==◌, not, nat_lt, codes, if◌then◌else◌, unwrap_or, position, length}
use Rattle.std.specs.Fmt.{decimal, digits}
use Rattle.std.specs.List.{list_all}
use Rattle.std.specs.Str.{bytes_eq}
use Rattle.iso_model.specs.Syntax.Characters.{is_small, is_alphanumeric, is_graphic, byte_of, alert, backspace, tab, newline, vertical_tab, form_feed, carriage_return, delete, space, backslash, quote}

-- a text that begins with `/*`, as a comment does
abbrev pub opens_comment : List ℕ → Bool
opens_comment (a ∷ b ∷ z) = a == byte_of (codes "/") && b == byte_of (codes "*")
opens_comment _ = false

-- An atom of letters, digits and `_` that begins with a small letter, or of graphic characters alone, stands bare
-- (6.4.2).
abbrev pub is_bare_run : List ℕ → Bool
is_bare_run [] = false
is_bare_run (b ∷ z) = if is_small b then list_all is_alphanumeric z
    else (list_all is_graphic (b ∷ z) && (not (bytes_eq (b ∷ z) (codes ".")) && not (opens_comment (b ∷ z))))

abbrev pub is_bare : List ℕ → Bool
is_bare a = bytes_eq a (codes "[]") || (bytes_eq a (codes "{}") || (bytes_eq a (codes "!") || (bytes_eq a (codes ";") || is_bare_run a)))

-- A byte of a quoted atom (6.4.2.1): a backslash and a quote behind a backslash, control characters as escapes, any
-- other as it is.
abbrev pub escaped : ℕ → List ℕ
escaped b = backslash ∷ b ∷ []

abbrev pub quoted_byte : ℕ → List ℕ
quoted_byte b =
    if b == backslash || b == quote then escaped b
    else (if b == alert then escaped (byte_of (codes "a"))
    else (if b == backspace then escaped (byte_of (codes "b"))
    else (if b == tab then escaped (byte_of (codes "t"))
    else (if b == newline then escaped (byte_of (codes "n"))
    else (if b == vertical_tab then escaped (byte_of (codes "v"))
    else (if b == form_feed then escaped (byte_of (codes "f"))
    else (if b == carriage_return then escaped (byte_of (codes "r"))
    else (if nat_lt b space || b == delete then backslash ∷ byte_of (codes "x") ∷ (digits 16 false b ++ backslash ∷ [])
    else b ∷ []))))))))

abbrev pub quoted_bytes : List ℕ → List ℕ
quoted_bytes [] = []
quoted_bytes (b ∷ z) = quoted_byte b ++ quoted_bytes z

-- an atom, or a compound's name
abbrev pub name_text : List ℕ → List ℕ
name_text a = if is_bare a then a else quote ∷ (quoted_bytes a ++ quote ∷ [])

-- a variable: `_k`, where it is the k-th of these
abbrev pub variable_text : List ℕ → ℕ → List ℕ
variable_text seen n = byte_of (codes "_") ∷ decimal (unwrap_or (position (λ m. m == n) seen) (length seen) + 1)

-- a numbered variable, as `'$VAR'(n)` is written: the capital letter number n mod 26, and n // 26 where that isn't 0
abbrev pub numbered_variable : ℕ → List ℕ
numbered_variable n = (byte_of (codes "A") + n % 26) ∷ (if n / 26 == 0 then [] else decimal (n / 26))
