-- What is left of writing a term out part by part, and what a part needs and takes.
use Rattle.std.specs.Prelude.{◌≡◌, ℕ, ◌+◌, ◌<◌, ◌-◌, List, [], ◌∷◌, ◌++◌, map, length, take, slice_get, Option, Some, None, true}
use Rattle.std.specs.List.{All}
use Rattle.std.specs.Borrow.{Bor}
use Rattle.iso_model.specs.declared.terms.Term.{Term}
use Rattle.iso_model.specs.Terms.Trees.{Tree, Variable, arities_fit}
use Rattle.iso_model.specs.Terms.TermOf.{term_of}
use Rattle.iso_model.specs.Terms.Substitutions.{Subst}
use Rattle.iso_model.specs.Terms.Building.{with_step}
use Rattle.iso_model.specs.Terms.Copies.{place_of}
use Rattle.iso_store_core.specs.Copying.{wide_cells}
use Rattle.iso_store_core.specs.Patterns.{IsPattern, HasPlaces, part_step}
use Rattle.iso_store_core.specs.declared.patterns.Part.{Part}
use Rattle.iso_store_core.specs.declared.patterns.Part.TheVariants.{Variable as Place, Integer as Number, Atom, Compound}
use Rattle.iso_store.specs.declared.patterns.Places.{Places}
use Rattle.iso_store.specs.declared.patterns.Places.TheVariants.{Numbers, Among}

-- The parts write out a term that is well formed, whose variables have places among so many.
abbrev pub IsFitPattern : List (List ℕ) → List Part → ℕ → Type 0
IsFitPattern names ks count = (t : Tree) × IsPattern names ks t × (arities_fit t ≡ true) × HasPlaces count t

-- how many of so many terms a compound of n arguments takes
abbrev pub taken : ℕ → ℕ → ℕ
taken count n = count - (count - n)

-- the part can be done where so many variables have words, and so many words came before it
abbrev pub IsReady : ℕ → ℕ → Part → Type 0
IsReady variables count (Place k) = k < variables
IsReady variables count (Number z) = Unit {0}
IsReady variables count (Atom a) = Unit {0}
IsReady variables count (Compound a n) = (0 < taken count n) × (taken count n < 256)

-- the part is a variable, which has a place among so many
abbrev pub IsPlace : ℕ → Part → Type 0
IsPlace variables (Place k) = k < variables
IsPlace variables _ = ⊥

abbrev pub IsVariable : Part → Type 0
IsVariable (Place k) = Unit {0}
IsVariable _ = ⊥

-- the parts write out a compound of this name whose arguments are variables alone
abbrev pub IsFlat : ℕ → List Part → Type 0
IsFlat name ks = ((count : ℕ) × (slice_get ks (length ks - 1) ≡ Some (Compound name count))) × All IsVariable (take (length ks - 1) ks)

-- a word that is there, as a list
abbrev pub word_there : {W : Type 0} → Option W → List W
word_there (Some w) = w ∷ []
word_there None = []

-- the words at the places of the variables among the parts
abbrev pub picked : {W : Type 0} → List W → List Part → List W
picked ws [] = []
picked ws (Place k ∷ ks) = word_there (slice_get ws k) ++ picked ws ks
picked ws (Number z ∷ ks) = picked ws ks
picked ws (Atom a ∷ ks) = picked ws ks
picked ws (Compound a n ∷ ks) = picked ws ks

-- the part makes this one term of the terms before it, where s gives the terms of the places
abbrev pub MakesOne : List (List ℕ) → Subst → Part → List Tree → Tree → Type 0
MakesOne names s part before t = with_step (part_step names s part) before ≡ t ∷ []

-- how many cells the part takes, where an atom takes so many and a compound of n arguments takes width n
abbrev pub part_cells : ℕ → (ℕ → ℕ) → ℕ → Part → ℕ
part_cells atomic width count (Place k) = 0
part_cells atomic width count (Number z) = atomic + wide_cells z
part_cells atomic width count (Atom a) = atomic
part_cells atomic width count (Compound a n) = width (taken count n)

-- the variables by their places
abbrev pub placed_by : Places → Subst
placed_by Numbers x = Variable x
placed_by (Among n) x = Variable (place_of x n.now)

-- the terms that are left to be written, the last one next
abbrev pub terms_left : List (Bor Term) → List Tree
terms_left left = map (λ t. term_of t.now) left
