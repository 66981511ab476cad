-- What was gathered (ISO/IEC 13211-1:1995, 8.10).
use Rattle.std.specs.Prelude.{◌≡◌, ◌+◌, List, [], ◌∷◌, ◌++◌, map, if◌then◌else◌}
use Rattle.iso_model.specs.Terms.Trees.{Tree}
use Rattle.iso_model.specs.Terms.TermOf.{term_of}
use Rattle.iso_model.specs.Terms.Copies.{copy_from}
use Rattle.iso_model.specs.Terms.Variables.{variable_count}
use Rattle.iso_model.specs.Search.Groups.{is_solution}
use Rattle.iso_lib_core.specs.Groupings.{solution_of}
use Rattle.iso_search_core.specs.declared.solutions.Gathered.{Gathered}
use Rattle.iso_search_core.specs.declared.pairs.Pairs.{Pairs}

-- the copies of the solutions of a findall/3 so far
abbrev pub copies_of : Gathered → List Tree
copies_of g = map term_of g.copies.items

-- A copy of this solution came behind them.
pub record GainsCopy (t : Tree) (old new : Gathered) : Type 0 where
  pub copies : copies_of new ≡ copies_of old ++ copy_from t old.variables ∷ []
  pub variables : new.variables ≡ old.variables + variable_count t

-- the copies of the solutions of a bagof/3 or setof/3 so far
abbrev pub pairs_of : Pairs → List Tree
pairs_of g = map solution_of g.pairs.items

-- A copy of this solution came behind them, where it is a pair.
pub record GainsPair (t : Tree) (old new : Pairs) : Type 0 where
  pub copies : pairs_of new ≡ (if is_solution t then pairs_of old ++ copy_from t old.variables ∷ [] else pairs_of old)
  pub variables : new.variables ≡ (if is_solution t then old.variables + variable_count t else old.variables)

-- the same solutions were gathered
abbrev pub KeepsCopies : Gathered → Gathered → Type 0
KeepsCopies old new = (copies_of new ≡ copies_of old) × (new.variables ≡ old.variables)

abbrev pub KeepsPairs : Pairs → Pairs → Type 0
KeepsPairs old new = (pairs_of new ≡ pairs_of old) × (new.variables ≡ old.variables)

-- how what was gathered changes, of either kind
pub record Change : Type 1 where
  pub copies : Gathered → Gathered → Type 0
  pub pairs : Pairs → Pairs → Type 0

-- a copy of this solution came
abbrev pub Gains : Tree → Change
Gains t = record { copies = GainsCopy t; pairs = GainsPair t }

-- none came
abbrev pub SameCopies : Change
SameCopies = record { copies = KeepsCopies; pairs = KeepsPairs }
