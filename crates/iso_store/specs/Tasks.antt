-- What is left to do of copying a term out.
use Rattle.std.specs.Prelude.{◌≡◌, ℕ, ◌<◌, List, length, map}
use Rattle.iso_atoms.specs.Texts.{text_at}
use Rattle.iso_model.specs.Terms.Building.{Step, Give, Gather}
use Rattle.iso_store.specs.declared.copies.Task.{Task}
use Rattle.iso_store.specs.declared.copies.Task.TheVariants.{Copy, Build}
use Rattle.iso_store_core.specs.Presents.{Present, Holds, meaning}
use Rattle.iso_store_core.specs.Arguments.{arity, arguments_from}

-- in a store that is so, and where these are the names of the atoms
module _ {W : Type 0} (p : Present W) (names : List (List ℕ)) where
  -- what the task speaks of is there
  abbrev pub IsTask : Task W → Type 0
  IsTask (Copy word index count) = Holds p word × (index < count) × (arity (meaning p word) ≡ count)
  IsTask (Build name count) = name < length names

  -- what the task adds to the copies
  abbrev pub step_of : Task W → Step
  step_of (Copy word index count) = Give (arguments_from index (meaning p word))
  step_of (Build name count) = Gather (text_at names name) count

  abbrev pub steps_of : List (Task W) → List Step
  steps_of tasks = map step_of tasks
