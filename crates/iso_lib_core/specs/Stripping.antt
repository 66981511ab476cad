-- Free variables (ISO/IEC 13211-1:1995, 7.1.1.4).
use Rattle.std.specs.Prelude.{ℕ, List, Bool, false, not}
use Rattle.iso_model.specs.Terms.Trees.{Tree, Variable}
use Rattle.iso_model.specs.Terms.Variables.{is_in, distinct_from}

-- whether the term is a variable that is none of these
abbrev pub is_free : List ℕ → Tree → Bool
is_free bound (Variable x) = not (is_in x bound)
is_free bound t = false

-- those seen, and the term, where it is a variable that isn't among them
abbrev pub with_variable : List ℕ → Tree → List ℕ
with_variable seen (Variable x) = distinct_from seen (Variable x)
with_variable seen t = seen
