-- The names that were given, and those of the names that are left, are all of them.
use Rattle.std.proofs.Common.{◌≡◌, ◌++◌, map}
use Rattle.std.specs.String.{string_bytes}
use Rattle.iso_model.specs.Syntax.Grammar.{numbered}
use Rattle.iso_read.specs.Places.{texts_of}
use Rattle.iso_read.proofs.names.Names.numbered.Given as goal

abbrev pub invariant-loop-number : goal.invariant-loop-number
invariant-loop-number l = map (λ entry. (string_bytes entry.0, entry.1)) l.numbered.items ++ numbered l.number-iterator.count (texts_of l.number-iterator.iter.rest.items) ≡ numbered 0 l.fn.self
