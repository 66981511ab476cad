-- What a shape shows of a term.
use Rattle.std.specs.Prelude.{◌≡◌, ◌<◌, ℕ, List, length}
use Rattle.iso_atoms.specs.Texts.{text_at}
use Rattle.iso_model.specs.Terms.Trees.{Tree, Variable, Integer, Name, Apply, count}
use Rattle.iso_store_core.specs.declared.shapes.Shape.{Shape}
use Rattle.iso_store_core.specs.declared.shapes.Shape.TheVariants.{Var, Int, Atom, Compound}

-- the shape is that of the term, where these are the names of the atoms, in the order of their numbers
abbrev pub IsShape : List (List ℕ) → Shape → Tree → Type 0
IsShape names (Var n) t = t ≡ Variable n
IsShape names (Int z) t = t ≡ Integer z
IsShape names (Atom a) t = (a < length names) × (t ≡ Name (text_at names a))
IsShape names (Compound f n) t = (f < length names) × (ts : Tree) × (t ≡ Apply (text_at names f) ts) × (count ts ≡ n)
