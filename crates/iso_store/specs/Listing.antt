-- What is left to do of listing the variables of a term.
use Rattle.std.specs.Prelude.{◌≡◌, ℕ, List, [], ◌∷◌, map, true, IsSome, sum_by}
use Rattle.std.specs.List.{All}
use Rattle.iso_model.specs.Terms.Trees.{Tree, Variable, Integer, Name, Apply, End, More, row}
use Rattle.iso_model.specs.Terms.Variables.{is_in, distinct_from}
use Rattle.iso_model.specs.Terms.Unification.Listed.{Covers}
use Rattle.iso_store.specs.declared.occurs.Task.{Task}
use Rattle.iso_store.specs.declared.occurs.Task.TheVariants.{Search, Leave}
use Rattle.iso_store.specs.declared.variables.Listing.{Listing}
use Rattle.iso_store_core.specs.Presents.{Present, Holds, meaning}
use Rattle.iso_store_core.specs.Arguments.{arguments_from}
use Rattle.iso_store.specs.Notes.{noted}
use Rattle.iso_store.specs.Searching.{IsThere, load}

-- the number of a variable
abbrev pub number_of : Tree → ℕ
number_of (Variable n) = n
number_of (Integer z) = 0
number_of (Name a) = 0
number_of (Apply f ts) = 0
number_of End = 0
number_of (More t ts) = 0

-- in a store that is so
module _ {W : Type 0} (p : Present W) where
  -- the numbers of the variables that were found
  abbrev pub seen : Listing W → List ℕ
  seen l = map (λ w. number_of (meaning p w)) l.found.items

  -- those seen once the tasks are done, the last of which comes first
  abbrev pub seen_after : List ℕ → List (Task W) → List ℕ
  seen_after now [] = now
  seen_after now (Search word index count ∷ tasks) = distinct_from (seen_after now tasks) (row (arguments_from index (meaning p word)))
  seen_after now (Leave place ∷ tasks) = seen_after now tasks

  -- how much there is to do at most
  abbrev pub listing_load : Listing W → ℕ
  listing_load l = sum_by (load p) l.tasks.items

  -- where this stands at each place
  module _ (at : ℕ → Tree) where
    -- when a place is left, the variables of the term there were seen
    abbrev pub AreSeen : List ℕ → List (Task W) → Type 0
    AreSeen now [] = Unit {0}
    AreSeen now (Search word index count ∷ tasks) = AreSeen now tasks
    AreSeen now (Leave place ∷ tasks) = Covers (seen_after now tasks) (at place) × AreSeen now tasks

    -- The listing stands for variables that were seen, and its tasks go on from those seen now. The variables of a
    -- term at a place that was searched were seen, and the place of each one that was seen was searched.
    pub record IsListing (place : ℕ → ℕ) (now : List ℕ) (l : Listing W) : Type 0 where
      pub hold : All (λ w. Holds p w) l.found.items
      pub variables : map (meaning p) l.found.items ≡ map Variable (seen l)
      pub covered : (k : ℕ) → IsSome (noted l.searched k) → Covers (seen l) (at k)
      pub known : (n : ℕ) → is_in n (seen l) ≡ true → IsSome (noted l.searched (place n))
      pub there : All (IsThere p) l.tasks.items
      pub sound : AreSeen now l.tasks.items
