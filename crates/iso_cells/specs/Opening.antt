-- What opening a word says of the term that it stands for.
use Rattle.std.specs.Prelude.{◌≡◌, ◌≢◌, ◌==◌, ◌&&◌, ℕ, List, Bool, true, false}
use Rattle.std.specs.Str.{bytes_eq}
use Rattle.iso_atoms.specs.Texts.{text_at}
use Rattle.iso_model.specs.Terms.Trees.{Tree, Variable, Apply, count}
use Rattle.iso_model.specs.Terms.Sorts.{is_row}
use Rattle.iso_store_core.specs.Arguments.{arity}
use Rattle.iso_store_core.specs.Presents.{Present, Holds, meaning}
use Rattle.iso_cells.specs.declared.cells.Opened.{Opened}
use Rattle.iso_cells.specs.declared.cells.Opened.TheVariants.{Read, Write, Missed}

-- The word stands for a compound of this name and so many arguments, and was made as one.
pub record IsCompound {W : Type 0} (p : Present W) (w : W) (f : List ℕ) (n : ℕ) : Type 0 where
  pub arguments : Tree
  pub means : meaning p w ≡ Apply f arguments
  pub row : is_row arguments ≡ true
  pub many : count arguments ≡ n
  pub made : arity (p.term w) ≡ n

-- whether the term is a compound of this name and so many arguments
abbrev pub is_compound : List ℕ → ℕ → Tree → Bool
is_compound f n (Apply g ts) = bytes_eq g f && count ts == n
is_compound f n t = false

-- The word stands for a compound of this name and so many arguments, which the other one was made as; for a variable,
-- for which the other one was made; or for neither.
abbrev pub IsOpened : {W : Type 0} → List (List ℕ) → Present W → W → ℕ → ℕ → Opened W → Type 0
IsOpened names p word name n (Read w) = Holds p w × (meaning p word ≡ meaning p w) × IsCompound p w (text_at names name) n
IsOpened names p word name n (Write w) = Holds p w × (meaning p word ≡ meaning p w) × ((x : ℕ) × (meaning p w ≡ Variable x))
IsOpened names p word name n Missed = (is_compound (text_at names name) n (meaning p word) ≡ false) × ((x : ℕ) → meaning p word ≢ Variable x)
