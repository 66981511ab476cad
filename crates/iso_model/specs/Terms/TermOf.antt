-- What a Rust term means: the pure term that it is.
use Rattle.std.specs.Prelude.{List, map}
use Rattle.std.specs.String.{string_bytes}
use Rattle.iso_model.specs.declared.terms.Term.{Term}
use Rattle.iso_model.specs.declared.terms.Term.TheOpen.{Term-F, Var, Int, Atom, Compound}
use Rattle.iso_model.specs.declared.terms.Term.TheFolds.{fold-Term}
use Rattle.iso_model.specs.Terms.Trees.{Tree, Variable, Integer, Name, Apply, row}

abbrev pub term_step : Term-F Tree → Tree
term_step (Var n) = Variable n
term_step (Int z) = Integer z
term_step (Atom a) = Name (string_bytes a)
term_step (Compound f ts) = Apply (string_bytes f) (row ts.items)

-- the term that a Rust term is
abbrev pub term_of : Term → Tree
term_of = fold-Term Tree term_step

-- the terms of a list, as a list of terms
abbrev pub row_of : List Term → Tree
row_of ts = row (map term_of ts)
