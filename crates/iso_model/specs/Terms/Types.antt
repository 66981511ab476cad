-- The types of terms (ISO/IEC 13211-1:1995, 7.1).
use Rattle.std.specs.Prelude.{Bool, true, false}
use Rattle.iso_model.specs.Terms.Trees.{Tree, Variable, Integer, Name, Apply}

abbrev pub is_variable : Tree → Bool
is_variable (Variable n) = true
is_variable t = false

abbrev pub is_integer : Tree → Bool
is_integer (Integer z) = true
is_integer t = false

abbrev pub is_atom : Tree → Bool
is_atom (Name a) = true
is_atom t = false

abbrev pub is_compound : Tree → Bool
is_compound (Apply f ts) = true
is_compound t = false
