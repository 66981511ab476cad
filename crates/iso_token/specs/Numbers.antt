-- What clauses see of Rust's numbers and escapes.
use Rattle.iso_model.specs.Syntax.Numbers as numbers
use Rattle.iso_model.specs.Syntax.Token.{bounded}
use Rattle.iso_token.specs.declared.numbers.Written.{Written}
use Rattle.iso_token.specs.declared.numbers.Escape.{Escape}

-- a number as it is written, its value cut at the greatest one of an integer
abbrev pub bounded_of : numbers.Written → Written
bounded_of w = record { value = bounded w.value; len = w.len }

-- the character that a Rust escape is
abbrev pub escape_of : Escape → numbers.Written
escape_of e = record { value = e.character; len = e.len }
