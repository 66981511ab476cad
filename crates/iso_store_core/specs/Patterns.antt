-- Terms that are written out part by part: those that a compound is made of come before it.
use Rattle.std.specs.Prelude.{◌≡◌, ℕ, ◌<◌, List, [], ◌∷◌, length, true}
use Rattle.std.specs.List.{All, slice_index_or}
use Rattle.iso_atoms.specs.Texts.{text_at}
use Rattle.iso_model.specs.Terms.Trees.{Tree, Variable, Integer, Name, End}
use Rattle.iso_model.specs.Terms.Building.{Step, Give, Gather, with_step}
use Rattle.iso_model.specs.Terms.Variables.{occurs}
use Rattle.iso_model.specs.Terms.Substitutions.{Subst}
use Rattle.iso_store_core.specs.declared.patterns.Part.{Part}
use Rattle.iso_store_core.specs.declared.patterns.Part.TheVariants.{Variable as Place, Integer as Number, Atom, Compound}

-- where these are the names of the atoms
module _ (names : List (List ℕ)) where
  -- the atom of the part, where it has one, has a name
  abbrev pub IsNamed : Part → Type 0
  IsNamed (Place k) = Unit {0}
  IsNamed (Number z) = Unit {0}
  IsNamed (Atom a) = a < length names
  IsNamed (Compound a n) = a < length names

  -- what the part makes of the terms before it, where s gives the terms of the places
  abbrev pub part_step : Subst → Part → Step
  part_step s (Place k) = Give (s k ∷ [])
  part_step s (Number z) = Give (Integer z ∷ [])
  part_step s (Atom a) = Give (Name (text_at names a) ∷ [])
  part_step s (Compound a n) = Gather (text_at names a) n

  -- the terms after the parts, where these came before them
  abbrev pub after_parts : List Part → List Tree → List Tree
  after_parts [] ts = ts
  after_parts (k ∷ ks) ts = after_parts ks (with_step (part_step Variable k) ts)

-- The parts are those of this one term, whose variables are numbered by their places.
pub record IsPattern (names : List (List ℕ)) (parts : List Part) (t : Tree) : Type 0 where
  pub named : All (IsNamed names) parts
  pub term : after_parts names parts [] ≡ t ∷ []

-- each variable of the term has a place among so many
abbrev pub HasPlaces : ℕ → Tree → Type 0
HasPlaces count t = (x : ℕ) → occurs x t ≡ true → x < count

-- each of these terms at its place
abbrev pub at_places : List Tree → Subst
at_places ts k = slice_index_or ts k End
