-- What is left to do of planning a copy.
use Rattle.std.specs.Prelude.{◌≡◌, ℕ, ◌+◌, ◌-◌, ◌<◌, ◌≤◌, List, [], ◌∷◌, length, map, drop, Some, IsSome, slice_get, true}
use Rattle.std.specs.List.{All}
use Rattle.iso_atoms.specs.Texts.{text_at}
use Rattle.iso_model.specs.Terms.Trees.{Tree, Apply, row}
use Rattle.iso_model.specs.Terms.Sorts.{is_term}
use Rattle.iso_model.specs.Terms.Building.{Step, Give, Gather, with_steps}
use Rattle.iso_model.specs.Terms.Variables.{is_in}
use Rattle.iso_model.specs.Terms.Unification.Listed.{Covers}
use Rattle.iso_store.specs.declared.plans.Task.{Task}
use Rattle.iso_store.specs.declared.plans.Task.TheVariants.{Plan, Make}
use Rattle.iso_store.specs.declared.plans.Planning.{Planning}
use Rattle.iso_store_core.specs.Presents.{Present, Holds, meaning}
use Rattle.iso_store_core.specs.Arguments.{arity, arguments_from}
use Rattle.iso_store.specs.Listing.{number_of}
use Rattle.iso_store.specs.Notes.{noted}
use Rattle.iso_store.specs.Plans.{Sketch, start, after_plan, AreReady}

-- this term is the compound of the last of these terms, so many
abbrev pub IsGathered : List ℕ → ℕ → List Tree → Tree → Type 0
IsGathered f n ts t = (t ≡ Apply f (row (drop (length ts - n) ts))) × (is_term t ≡ true)

-- in a store that is so, and where these are the names of the atoms
module _ {W : Type 0} (p : Present W) where
  -- the numbers of the variables that these words stand for
  abbrev pub numbers_of : List W → List ℕ
  numbers_of ws = map (λ w. number_of (meaning p w)) ws

  abbrev pub numbers : Planning W → List ℕ
  numbers l = numbers_of l.variables.items

  module _ (names : List (List ℕ)) where
    -- what the task speaks of is there, and its variables are among these
    abbrev pub IsTask : List ℕ → Task W → Type 0
    IsTask vs (Plan word index count) = Holds p word × (index < count) × (arity (meaning p word) ≡ count) × Covers vs (meaning p word)
    IsTask vs (Make name count place) = name < length names

    -- what the task adds to the terms
    abbrev pub step_of : Task W → Step
    step_of (Plan word index count) = Give (arguments_from index (meaning p word))
    step_of (Make name count place) = Gather (text_at names name) count

    abbrev pub steps_of : List (Task W) → List Step
    steps_of tasks = map step_of tasks

    -- what the plan makes so far
    abbrev pub planned : Planning W → Sketch
    planned l = after_plan names l.parts.items (start (map (meaning p) l.variables.items))

    -- where this stands at each place
    module _ (at : ℕ → Tree) where
      -- a compound that is to be made of the terms that there are then is what stands at its place
      abbrev pub AreDue : List Tree → List (Task W) → Type 0
      AreDue now [] = Unit {0}
      AreDue now (Plan word index count ∷ tasks) = AreDue now tasks
      AreDue now (Make name count place ∷ tasks) = IsGathered (text_at names name) count (with_steps (steps_of tasks) now) (at place) × AreDue now tasks

      -- The parts can be done, and the tasks go on from these terms. What is noted of a place is where its term is
      -- among those that are known, and each variable is noted.
      pub record IsPlanning (place : ℕ → ℕ) (now : List Tree) (l : Planning W) : Type 0 where
        pub ready : AreReady names l.parts.items (start (map (meaning p) l.variables.items))
        pub count : length l.variables.items + l.made ≡ length (planned l).known
        pub few : length l.variables.items ≤ 536870912
        pub within : l.made ≤ length l.parts.items
        pub sound : (k i : ℕ) → noted l.known k ≡ Some i → slice_get (planned l).known i ≡ Some (at k)
        pub covered : (n : ℕ) → is_in n (numbers l) ≡ true → IsSome (noted l.known (place n))
        pub there : All (IsTask (numbers l)) l.tasks.items
        pub due : AreDue now l.tasks.items
