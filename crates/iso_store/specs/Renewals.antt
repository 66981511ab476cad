-- Words of new variables, which come where they first occur.
use Rattle.std.specs.Prelude.{◌≡◌, ℕ, ◌+◌, List, Option, Some, None, slice_get, false}
use Rattle.iso_model.specs.Terms.Trees.{Variable}
use Rattle.iso_store_core.specs.declared.patterns.Part.{Part}
use Rattle.iso_store_core.specs.declared.patterns.Part.TheVariants.{Variable as Place, Integer as Number, Atom, Compound}
use Rattle.iso_store_core.specs.Presents.{Present, Holds}

-- Each variable from this number on has its word at its place, or is not there yet.
pub record HaveWords {W : Type 0} (p : Present W) (first : ℕ) (known : List (Option W)) : Type 0 where
  pub holds : (k : ℕ) (w : W) → slice_get known k ≡ Some (Some w) → Holds p w
  pub terms : (k : ℕ) (w : W) → slice_get known k ≡ Some (Some w) → p.term w ≡ Variable (first + k)
  pub free : (k : ℕ) → slice_get known k ≡ Some None → p.taken (first + k) ≡ false

-- how many variables come for one that has this word
abbrev pub new_for : {W : Type 0} → Option (Option W) → ℕ
new_for (Some None) = 1
new_for (Some (Some w)) = 0
new_for None = 0

-- how many variables come for the part, where these are the words that are known
abbrev pub new_of : {W : Type 0} → List (Option W) → Part → ℕ
new_of known (Place k) = new_for (slice_get known k)
new_of known (Number z) = 0
new_of known (Atom a) = 0
new_of known (Compound a n) = 0
