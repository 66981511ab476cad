-- What is written, and what is left to be quoted.
use Rattle.std.proofs.Common.{◌≡◌, ◌++◌, ◌∷◌, drop}
use Rattle.iso_model.specs.Syntax.Texts.{quoted_bytes}
use Rattle.iso_write.proofs.names.append_name.Given as goal

abbrev pub invariant-loop-byte : goal.invariant-loop-byte
invariant-loop-byte l = l.line.items ++ quoted_bytes (drop l.byte-index l.byte-items) ≡ l.fn.line.items ++ 39 ∷ quoted_bytes l.byte-items
