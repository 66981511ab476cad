-- Atoms and integers of 64 bits, which take no cell.
use Rattle.std.specs.Prelude.{Bool, true, false}
use Rattle.iso_model.specs.Terms.Trees.{Tree, Integer, Name}
use Rattle.iso_model.specs.Terms.Integers.{is_short}

-- whether the term is one of them
abbrev pub is_constant : Tree → Bool
is_constant (Integer z) = is_short z
is_constant (Name a) = true
is_constant t = false
