-- Laws of lists that are put in order.
use Rattle.std.specs.Prelude.{◌≡◌, ◌≢◌, List, [], ◌∷◌, ⊤}
use Rattle.std.specs.List.{filter}
use Rattle.std.specs.Ordering.{is_eq}
use Rattle.std.specs.declared.cmp.Ordering.TheVariants.{Less, Greater}
use Rattle.iso_model.specs.Terms.Trees.{Tree}
use Rattle.iso_model.specs.Terms.Order.{term_cmp}
use Rattle.iso_model.specs.Terms.Sorting.{sorted, key_cmp, sorted_by_keys}

module _ {X : Type 0} (Before : X → X → Type 0) where
  -- the element stands before the first one of the list, where there is one
  abbrev pub StandsBefore : X → List X → Type 0
  StandsBefore x [] = ⊤
  StandsBefore x (y ∷ ys) = Before x y

  -- each element stands before the next one
  abbrev pub AreInTurn : List X → Type 0
  AreInTurn [] = ⊤
  AreInTurn (x ∷ xs) = StandsBefore x xs × AreInTurn xs

-- the elements of a sorted list ascend, so none stands in it twice
abbrev pub SortedAscends : Type 0
SortedAscends = (ts : List Tree) → AreInTurn (λ t u. term_cmp t u ≡ Less) (sorted ts)

-- the keys of a list that was sorted by them never descend
abbrev pub KeysNeverDescend : Type 0
KeysNeverDescend = (ts : List Tree) → AreInTurn (λ t u. key_cmp t u ≢ Greater) (sorted_by_keys ts)

-- sorting by keys keeps all elements of each key, as they came
abbrev pub KeysKeepTheirElements : Type 0
KeysKeepTheirElements = (ts : List Tree) (t : Tree) → filter (λ u. is_eq (key_cmp t u)) (sorted_by_keys ts) ≡ filter (λ u. is_eq (key_cmp t u)) ts
