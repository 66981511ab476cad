-- What a text has: terms, each up to its end token, and syntax errors (ISO/IEC 13211-1:1995, 6.2; what stands for one
-- syntax error is own).
use Rattle.std.specs.Prelude.{List, [], ◌∷◌, Option, Some, None}
use Rattle.iso_model.specs.Syntax.Token.{Shown}
use Rattle.iso_model.specs.Syntax.Grammar.{ReadTerm}
use Rattle.iso_model.specs.Syntax.Clauses.{next_clause, behind_clause}
use Rattle.iso_ops.specs.Operators.{Operator}
use Rattle.iso_ops.specs.declared.settings.Flags.{Flags}

-- a term that was read, with its variables' names, or a syntax error
pub data Item : Type 0 where
  Readable : (clause : ReadTerm) → Item
  Unreadable : Item

-- an item, and the tokens behind it
pub record Taken : Type 0 where
  pub item : Item
  pub behind : List Shown

abbrev pub item_of : Option ReadTerm → Item
item_of None = Unreadable
item_of (Some c) = Readable c

-- The next item, where tokens are left: the term up to the next end token, or a syntax error, which also stands for
-- tokens without an end token.
abbrev pub next_item : List Operator → Flags → List Shown → Option Taken
next_item table flags [] = None
next_item table flags (t ∷ ts) = Some (record { item = item_of (next_clause table flags (t ∷ ts)); behind = behind_clause (t ∷ ts) })
