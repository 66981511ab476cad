-- Terms for variables, by the places of these.
use Rattle.std.specs.Prelude.{ℕ, List}
use Rattle.std.specs.List.{slice_index_or}
use Rattle.iso_model.specs.Terms.Trees.{Tree, End}
use Rattle.iso_model.specs.Terms.Substitutions.{Subst}
use Rattle.iso_model.specs.Terms.Copies.{place_of}

-- each of these variables stands for the term at its place
abbrev pub placed_terms : List Tree → List ℕ → Subst
placed_terms ts vs x = slice_index_or ts (place_of x vs) End
