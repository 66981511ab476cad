-- A row of places, each empty or holding a value.
use Rattle.std.specs.Prelude.{◌≡◌, ℕ, get_or, List, [], ◌∷◌, Option, Some, None}

module _ {X : Type 0} where
  -- the values that are there
  abbrev pub somes : List (Option X) → List X
  somes [] = []
  somes (None ∷ cs) = somes cs
  somes (Some x ∷ cs) = x ∷ somes cs

  -- the place at the index holds a value
  abbrev pub IsFilled : List (Option X) → ℕ → Type 0
  IsFilled cs i = (x : X) × (get_or cs i None ≡ Some x)
