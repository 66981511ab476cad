-- What holds of the grammar and of reading by precedence, for every table of operators.
use Rattle.std.specs.Prelude.{◌≡◌, ◌↔◌, ◌<◌, ℕ, true, List, Some}
use Rattle.std.specs.List.{All}
use Rattle.iso_ops.specs.Operators.{Operator, IsOpTable}
use Rattle.iso_ops.specs.declared.settings.Flags.{Flags}
use Rattle.iso_model.specs.Syntax.Token.{Shown}
use Rattle.iso_model.specs.Terms.Trees.{arities_fit}
use Rattle.iso_model.specs.Terms.Numbering.{next_number}
use Rattle.iso_model.specs.Syntax.Grammar.{ReadTerm, IsReadTerm}
use Rattle.iso_model.specs.Syntax.Reading.{clause_of}
use Rattle.iso_model.specs.Syntax.Clauses.{IsNextClause, next_clause}

-- Tokens are at most one clause.
abbrev pub AtMostOneClause : Type 0
AtMostOneClause = (table : List Operator) (flags : Flags) → IsOpTable table → (ts : List Shown) (c d : ReadTerm) → IsReadTerm table flags ts c → IsReadTerm table flags ts d → c ≡ d

-- Reading by precedence gives the clause that the tokens are, and gives none where they are none.
abbrev pub ReadsTheClause : Type 0
ReadsTheClause = (table : List Operator) (flags : Flags) → IsOpTable table → (ts : List Shown) (c : ReadTerm) → (clause_of table flags ts ≡ Some c) ↔ IsReadTerm table flags ts c

-- So it is with the next clause of a text's tokens.
abbrev pub ReadsTheNextClause : Type 0
ReadsTheNextClause = (table : List Operator) (flags : Flags) → IsOpTable table → (ts : List Shown) (c : ReadTerm) → (next_clause table flags ts ≡ Some c) ↔ IsNextClause table flags ts c

-- A clause's term is well formed, its variables are numbered in the order of their first occurrence, and each name is
-- that of one of them.
pub record IsWellRead (c : ReadTerm) : Type 0 where
  pub arities : arities_fit c.term ≡ true
  pub count : ℕ
  pub numbered : next_number c.term 0 ≡ Some count
  pub named : All (λ entry. entry.1 < count) c.names

abbrev pub ClausesAreWellRead : Type 0
ClausesAreWellRead = (table : List Operator) (flags : Flags) (ts : List Shown) (c : ReadTerm) → IsReadTerm table flags ts c → IsWellRead c
