-- The operator that an entry is.
use Rattle.std.specs.Prelude.{ℕ, List}
use Rattle.std.specs.Borrow.{Bor}
use Rattle.std.specs.String.{string_bytes}
use Rattle.iso_ops.specs.declared.table.Entry.{Entry}
use Rattle.iso_ops.specs.Operators.{Operator}

abbrev pub operator_of : Entry → Operator
operator_of entry = record { priority = entry.priority; spec = entry.spec; name = string_bytes entry.name }

-- the text behind a reference
abbrev pub text_of : Bor (List ℕ) → List ℕ
text_of text = text.now
