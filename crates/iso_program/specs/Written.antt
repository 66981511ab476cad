-- Terms as patterns of the store, where these are the names of the atoms.
use Rattle.std.specs.Prelude.{◌≡◌, ℕ, List, [], true}
use Rattle.std.specs.Borrow.{Bor}
use Rattle.std.specs.List.{slice_index_or}
use Rattle.iso_model.specs.declared.terms.Term.{Term}
use Rattle.iso_model.specs.Terms.Trees.{Tree, End, arities_fit}
use Rattle.iso_model.specs.Terms.TermOf.{term_of}
use Rattle.iso_store_core.specs.Patterns.{IsPattern, HasPlaces, after_parts}
use Rattle.iso_store_core.specs.declared.patterns.Part.{Part}
use Rattle.iso_store_core.specs.declared.patterns.Pattern.{Pattern}

module _ (names : List (List ℕ)) where
  -- the pattern is written for the term
  abbrev pub IsPatternOf : Pattern → Tree → Type 0
  IsPatternOf g t = IsPattern names g.parts.items t

  -- the term that a pattern is written for
  unfoldable pub term_in : Pattern → Tree
  term_in g = slice_index_or (after_parts names g.parts.items []) 0 End

  -- the term that the parts are written for
  unfoldable pub term_of_parts : List Part → Tree
  term_of_parts ks = slice_index_or (after_parts names ks []) 0 End

  -- it is written for some term
  abbrev pub IsWritten : Pattern → Type 0
  IsWritten g = IsPatternOf g (term_in g)

  -- the borrowed term was written so
  abbrev pub IsWrittenFor : Bor Term → Pattern → Type 0
  IsWrittenFor g h = IsPatternOf h (term_of g.now)

-- The term can be made in a store, with its variables standing for n words.
pub record Fits (n : ℕ) (t : Tree) : Type 0 where
  pub arities : arities_fit t ≡ true
  pub below : HasPlaces n t
