-- What an answer of the reader says of the tokens.
use Rattle.std.specs.Prelude.{◌≡◌, ◌≢◌, ◌<◌, map, length, List, [], Option, Some, None, Result, Ok, Err}
use Rattle.std.specs.String.{string_bytes}
use Rattle.iso_ops.specs.Operators.{Operator}
use Rattle.iso_ops.specs.declared.settings.Flags.{Flags}
use Rattle.iso_model.specs.Syntax.Token.{Shown}
use Rattle.iso_model.specs.Syntax.Grammar.{ReadTerm}
use Rattle.iso_model.specs.Syntax.Clauses.{IsNextClause, next_clause, behind_clause}
use Rattle.iso_model.specs.Syntax.ReadingLaws.{IsWellRead}
use Rattle.iso_model.specs.Terms.TermOf.{term_of}
use Rattle.iso_read.specs.declared.clause.Read.{Read}
use Rattle.iso_read.specs.declared.clause.ReadFault.{ReadFault}
use Rattle.iso_read.specs.declared.clause.ReadFault.TheVariants as fault

-- the clause that was read
abbrev pub clause_read : Read → ReadTerm
clause_read r = record { term = term_of r.term; names = map (λ entry. (string_bytes entry.0, entry.1)) r.names.items }

-- The tokens are this clause, or none where it is a syntax error.
abbrev pub IsWhole : Option ReadTerm → Result Read ReadFault → Type 0
IsWhole c (Ok r) = c ≡ Some (clause_read r)
IsWhole c (Err fault.Syntax) = c ≡ None
IsWhole c (Err fault.NoMemory) = Unit {0}

-- By the grammar, with these operators and flags: there is a term exactly where the tokens up to the next end token
-- are a clause, and it is that clause; none exactly where no token is left; else it is a syntax error. Of refused
-- memory it says nothing.
abbrev pub ReadsNext : List Operator → Flags → Result (Option Read) ReadFault → List Shown → Type 0
ReadsNext table flags (Ok None) ts = ts ≡ []
ReadsNext table flags (Ok (Some r)) ts = IsNextClause table flags ts (clause_read r)
ReadsNext table flags (Err fault.Syntax) ts = (ts ≢ []) × ((c : ReadTerm) → ¬ IsNextClause table flags ts c)
ReadsNext table flags (Err fault.NoMemory) ts = Unit {0}

-- the same by precedence
abbrev pub GivesNext : List Operator → Flags → Result (Option Read) ReadFault → List Shown → Type 0
GivesNext table flags (Ok None) ts = ts ≡ []
GivesNext table flags (Ok (Some r)) ts = next_clause table flags ts ≡ Some (clause_read r)
GivesNext table flags (Err fault.Syntax) ts = (0 < length ts) × (next_clause table flags ts ≡ None)
GivesNext table flags (Err fault.NoMemory) ts = Unit {0}

-- The tokens that are left stand behind the next end token, or at the end where there is none.
abbrev pub StandsBehind : Result (Option Read) ReadFault → List Shown → List Shown → Type 0
StandsBehind (Ok r) old left = left ≡ behind_clause old
StandsBehind (Err fault.Syntax) old left = left ≡ behind_clause old
StandsBehind (Err fault.NoMemory) old left = Unit {0}

-- Some token was taken, where any was left.
abbrev pub TakesSome : Result (Option Read) ReadFault → List Shown → List Shown → Type 0
TakesSome (Ok None) old left = Unit {0}
TakesSome _ old left = length left < length old

-- A term that was read is well formed, its variables are numbered in the order of their first occurrence, and each name
-- is that of one of them.
abbrev pub IsWellFormed : Option Read → Type 0
IsWellFormed None = Unit {0}
IsWellFormed (Some r) = IsWellRead (clause_read r)
