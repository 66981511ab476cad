-- Terms written out part by part, from the left: equal ones are of one term.
use Rattle.std.specs.Prelude.{ℕ, ℤ, List, [], ◌∷◌, ◌++◌}
use Rattle.std.specs.Borrow.{Bor}
use Rattle.std.specs.String.{string_bytes}
use Rattle.iso_model.specs.declared.terms.Term.{Term}
use Rattle.iso_model.specs.Terms.Trees.{Tree, Variable, Integer, Name, Apply, End, More, count}
use Rattle.iso_model.specs.Terms.TermOf.{row_of}
use Rattle.iso_model.specs.Terms.Copies.{copy_from}
use Rattle.iso_lib_core.specs.declared.variants.Piece.{Piece}
use Rattle.iso_lib_core.specs.declared.variants.Piece.TheVariants as piece

-- A part of a term: a variable, an integer, an atom, or the name and the number of arguments of a compound.
pub data Sign : Type 0 where
  OfVariable : (number : ℕ) → Sign
  OfInteger : (value : ℤ) → Sign
  OfAtom : (text : List ℕ) → Sign
  OfCompound : (name : List ℕ) → (arity : ℕ) → Sign

-- the parts of a term, each compound before its arguments
abbrev pub signs : Tree → List Sign
signs (Variable n) = OfVariable n ∷ []
signs (Integer z) = OfInteger z ∷ []
signs (Name a) = OfAtom a ∷ []
signs (Apply f ts) = OfCompound f (count ts) ∷ signs ts
signs End = []
signs (More t ts) = signs t ++ signs ts

-- the parts of a term with its variables numbered from 0: variants have the same ones
abbrev pub class_of : Tree → List Sign
class_of t = signs (copy_from t 0)

-- ---- as the code has them

abbrev pub sign_of : Piece → Sign
sign_of (piece.Variable n) = OfVariable n
sign_of (piece.Integer z) = OfInteger z
sign_of (piece.Atom a) = OfAtom (string_bytes a)
sign_of (piece.Compound f n) = OfCompound (string_bytes f) n

-- the parts of rows of terms that are still to be gone through, the last of which comes first
abbrev pub rows_signs : List (Bor (List Term)) → List Sign
rows_signs [] = []
rows_signs (row ∷ rows) = rows_signs rows ++ signs (row_of row.now)
