-- Words that stand where compounds will be.
use Rattle.std.specs.Prelude.{◌≡◌, ℕ, List, Some, pos}
use Rattle.std.specs.List.{slice_get}
use Rattle.iso_model.specs.Terms.Trees.{Integer}
use Rattle.iso_model.specs.Terms.Substitutions.{Subst}
use Rattle.iso_store_core.specs.Presents.{Present}
use Rattle.iso_code.specs.Standing.{IsFor}

-- Each of the words is for zero, whatever variables stand for.
abbrev pub AreFillers : {W : Type 0} → Present W → List W → Type 0
AreFillers {W} p words = (own by : Subst) (k : ℕ) (w : W) → slice_get words k ≡ Some w → IsFor p own by w (Integer (pos 0))
