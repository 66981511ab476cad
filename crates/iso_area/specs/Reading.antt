-- The values of a stack, read off its places one after another.
use Rattle.std.specs.Prelude.{ℕ, ◌-◌, zero, suc, get_or, List, [], ◌∷◌, ◌++◌, length, Option, None}
use Rattle.iso_area.specs.Places.{somes}

module _ {X : Type 0} where
  -- the i-th place from the block's beginning, and from its end
  abbrev pub from_beginning : List (Option X) → ℕ → Option X
  from_beginning cs i = get_or cs i None

  abbrev pub from_end : List (Option X) → ℕ → Option X
  from_end cs i = get_or cs (length cs - 1 - i) None

  -- the values among `f 0 .. f (k - 1)`
  abbrev pub read_off : (ℕ → Option X) → ℕ → List X
  read_off f zero = []
  read_off f (suc k) = read_off f k ++ somes (f k ∷ [])
