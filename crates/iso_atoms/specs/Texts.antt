-- The names that have a number, as the list of their texts: a name's number is its place.
use Rattle.std.specs.Prelude.{◌≡◌, ℕ, Bool, List, [], ◌∷◌, ◌++◌, Some, slice_get, slice_index_or, if◌then◌else◌}
use Rattle.std.specs.List.{list_any}
use Rattle.std.specs.Str.{bytes_eq}

-- whether the text is among the texts
abbrev pub has_text : List (List ℕ) → List ℕ → Bool
has_text texts text = list_any (bytes_eq text) texts

-- the texts once this one is numbered: one that has a number leaves them as they are, a new one goes last
abbrev pub numbered : List (List ℕ) → List ℕ → List (List ℕ)
numbered texts text = if has_text texts text then texts else texts ++ text ∷ []

-- the text at a place (the empty one past the end)
abbrev pub text_at : List (List ℕ) → ℕ → List ℕ
text_at texts place = slice_index_or texts place []

-- equal texts have one number
pub record EachOnce (texts : List (List ℕ)) : Type 0 where
  pub one_place : (i j : ℕ) (text : List ℕ) → slice_get texts i ≡ Some text → slice_get texts j ≡ Some text → i ≡ j

-- every number of the old list has the same text in the new one
abbrev pub KeepsTexts : List (List ℕ) → List (List ℕ) → Type 0
KeepsTexts old new = (place : ℕ) (text : List ℕ) → slice_get old place ≡ Some text → slice_get new place ≡ Some text
