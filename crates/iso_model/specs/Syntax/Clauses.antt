-- The clauses of a text, one after the other (ISO/IEC 13211-1:1995, 6.2): each goes up to an end token.
use Rattle.std.specs.Prelude.{◌≡◌, Bool, true, false, if◌then◌else◌, List, [], ◌∷◌, Option, Some, None, option_map}
use Rattle.iso_ops.specs.Operators.{Operator}
use Rattle.iso_ops.specs.declared.settings.Flags.{Flags}
use Rattle.iso_model.specs.Syntax.Token.{Shown, TokenKind, EndToken}
use Rattle.iso_model.specs.Syntax.Grammar.{ReadTerm, IsReadTerm}
use Rattle.iso_model.specs.Syntax.Reading.{◌>>=◌, clause_of}

abbrev pub is_end : TokenKind → Bool
is_end EndToken = true
is_end _ = false

-- a token before those that were found
abbrev pub behind_token : Shown → List Shown × List Shown → List Shown × List Shown
behind_token t x = (t ∷ x.0, x.1)

-- the tokens before the next end token, and those behind it; nothing where there is no end token
abbrev pub split_clause : List Shown → Option (List Shown × List Shown)
split_clause [] = None
split_clause (t ∷ ts) = if is_end t.kind then Some ([], ts) else option_map (behind_token t) (split_clause ts)

abbrev pub behind_by : Option (List Shown × List Shown) → List Shown
behind_by None = []
behind_by (Some x) = x.1

-- the tokens behind the next end token; none where there is no end token
abbrev pub behind_clause : List Shown → List Shown
behind_clause ts = behind_by (split_clause ts)

-- The tokens up to the next end token are this clause.
pub record IsNextClause (table : List Operator) (flags : Flags) (ts : List Shown) (c : ReadTerm) : Type 0 where
  pub before : List Shown
  pub others : List Shown
  pub splits : split_clause ts ≡ Some (before, others)
  pub clause : IsReadTerm table flags before c

-- the clause that the tokens up to the next end token are, read by precedence
abbrev pub next_clause : List Operator → Flags → List Shown → Option ReadTerm
next_clause table flags ts = do
  x ← split_clause ts
  clause_of table flags x.0
