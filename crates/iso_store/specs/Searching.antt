-- What is left to do of a search for a variable.
use Rattle.std.specs.Prelude.{◌≡◌, ℕ, ◌+◌, ◌*◌, ◌<◌, List, [], ◌∷◌, Bool, false, ◌||◌, IsSome}
use Rattle.iso_model.specs.Terms.Trees.{Tree, row}
use Rattle.iso_model.specs.Terms.Sizes.{size}
use Rattle.iso_model.specs.Terms.Variables.{occurs}
use Rattle.iso_store.specs.declared.notes.Notes.{Notes}
use Rattle.iso_store.specs.declared.occurs.Task.{Task}
use Rattle.iso_store.specs.declared.occurs.Task.TheVariants.{Search, Leave}
use Rattle.iso_store_core.specs.Presents.{Present, Holds, meaning}
use Rattle.iso_store_core.specs.Arguments.{arity, arguments_from}
use Rattle.iso_store.specs.Notes.{noted}

-- the variable is in no term that stands at a place that was searched
abbrev pub IsClear : (ℕ → Tree) → ℕ → Notes Unit → Type 0
IsClear at x searched = (k : ℕ) → IsSome (noted searched k) → occurs x (at k) ≡ false

-- in a store that is so
module _ {W : Type 0} (p : Present W) where
  -- what the task speaks of is there
  abbrev pub IsThere : Task W → Type 0
  IsThere (Search word index count) = Holds p word × (index < count) × (arity (meaning p word) ≡ count)
  IsThere (Leave place) = Unit {0}

  -- how much there is to do at most
  abbrev pub load : Task W → ℕ
  load (Search word index count) = 1 + 2 * size (row (arguments_from index (meaning p word)))
  load (Leave place) = 1

  -- where this stands at each place, and x is the variable
  module _ (at : ℕ → Tree) (x : ℕ) where
    -- whether x is in a term that is to be searched, or in what is searched now
    abbrev pub found : Bool → List (Task W) → Bool
    found now [] = now
    found now (Search word index count ∷ tasks) = found now tasks || occurs x (row (arguments_from index (meaning p word)))
    found now (Leave place ∷ tasks) = found now tasks

    -- where x is in nothing that is searched before a place is left, it is not in the term there
    abbrev pub AreSound : Bool → List (Task W) → Type 0
    AreSound now [] = Unit {0}
    AreSound now (Search word index count ∷ tasks) = AreSound now tasks
    AreSound now (Leave place ∷ tasks) = (found now tasks ≡ false → occurs x (at place) ≡ false) × AreSound now tasks
