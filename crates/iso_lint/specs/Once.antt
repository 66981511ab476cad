-- The variables that occur once in a clause, and don't begin with `_`.
use Rattle.std.specs.Prelude.{ℕ, Bool, true, false, not, ◌&&◌, ◌==◌, List, slice_index, codes}
use Rattle.std.specs.Str.{bytes_eq}
use Rattle.std.specs.List.{filter, count_by}
use Rattle.iso_model.specs.Syntax.Token.{Shown, TokenKind, VariableToken}
use Rattle.iso_model.specs.Syntax.Characters.{byte_of}

abbrev pub is_variable : TokenKind → Bool
is_variable VariableToken = true
is_variable _ = false

-- whether a token is the variable of this name
abbrev pub is_named : List ℕ → Shown → Bool
is_named name t = is_variable t.kind && bytes_eq t.text name

-- how often the variable of this name occurs
abbrev pub occurrences : List ℕ → List Shown → ℕ
occurrences name ts = count_by (is_named name) ts

-- whether a token of these is a variable that occurs once among them, and doesn't begin with `_`
abbrev pub occurs_once : List Shown → Shown → Bool
occurs_once ts t = is_variable t.kind && (not (slice_index t.text 0 == byte_of (codes "_")) && occurrences t.text ts == 1)

-- those tokens, in order
abbrev pub once : List Shown → List Shown
once ts = filter (occurs_once ts) ts
