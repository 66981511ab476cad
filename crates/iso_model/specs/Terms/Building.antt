-- Terms that are put together step by step: a list of terms grows at its end, and its last terms become a compound's
-- arguments.
use Rattle.std.specs.Prelude.{ℕ, ◌+◌, ◌-◌, ◌*◌, List, [], ◌∷◌, ◌++◌, length, take, drop}
use Rattle.iso_model.specs.Terms.Trees.{Tree, Apply, row}
use Rattle.iso_model.specs.Terms.Sizes.{size}

pub data Step : Type 0 where
  -- these terms come
  Give : (terms : List Tree) → Step
  -- a compound of this name takes the place of the last terms, so many
  Gather : (name : List ℕ) → (count : ℕ) → Step

-- the terms after a step
abbrev pub with_step : Step → List Tree → List Tree
with_step (Give us) ts = ts ++ us
with_step (Gather f n) ts = take (length ts - n) ts ++ Apply f (row (drop (length ts - n) ts)) ∷ []

-- the terms after steps, the last of which comes first
abbrev pub with_steps : List Step → List Tree → List Tree
with_steps [] ts = ts
with_steps (k ∷ ks) ts = with_step k (with_steps ks ts)

-- how much there is to do at most
abbrev pub step_load : Step → ℕ
step_load (Give us) = 1 + 2 * size (row us)
step_load (Gather f n) = 1

abbrev pub steps_load : List Step → ℕ
steps_load [] = 0
steps_load (k ∷ ks) = step_load k + steps_load ks
