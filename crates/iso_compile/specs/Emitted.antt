-- What emitted instructions are by the table, and what their marks say of variables.
use Rattle.std.specs.Prelude.{◌≡◌, ◌≢◌, ℕ, ◌==◌, ◌<◌, List, [], ◌∷◌, ◌++◌, length, map, get_or, Bool, true, false, Some, if◌then◌else◌}
use Rattle.std.specs.List.{slice_get}
use Rattle.std.specs.String.{string_bytes}
use Rattle.iso_alloc.specs.declared.places.Place.{Place}
use Rattle.iso_alloc.specs.declared.places.Place.TheVariants.{Nowhere}
use Rattle.iso_compile.specs.declared.instructions.Part.{Part}
use Rattle.iso_compile.specs.declared.instructions.Part.TheVariants.{New, Old, Void, Integer, Atom, Inner}
use Rattle.iso_compile.specs.declared.instructions.Block.{Block}
use Rattle.iso_compile.specs.declared.instructions.Get.{Get}
use Rattle.iso_compile.specs.Table as table
use Rattle.iso_compile.specs.Heads as heads

abbrev pub part_of : Part → table.Part
part_of (New x place) = table.Place x
part_of (Old x place) = table.Place x
part_of (Void x) = table.Place x
part_of (Integer z) = table.Number z
part_of (Atom a) = table.Atom (string_bytes a)
part_of (Inner r) = table.Inner r

abbrev pub block_of : Block → table.Block
block_of b = record { register = b.register; name = string_bytes b.name; parts = map part_of b.parts.items; inner = b.inner }

abbrev pub get_of : Get → heads.Get
get_of g = record { register = g.register; part = part_of g.part }

abbrev pub part_got : Get → Part
part_got g = g.part

-- the parts of these blocks, in the order in which the code meets them
abbrev pub all_parts : List Block → List Part
all_parts [] = []
all_parts (b ∷ bs) = b.parts.items ++ all_parts bs

-- The mark of a part is right where these variables were met before it: a variable is new where it was not met. Its
-- place is the one that it has in the plan.
abbrev pub IsMarked : List Place → (ℕ → Bool) → Part → Type 0
IsMarked places met (New x place) = (met x ≡ false) × (slice_get places x ≡ Some place) × (place ≢ Nowhere)
IsMarked places met (Old x place) = (met x ≡ true) × (x < length places → slice_get places x ≡ Some place)
IsMarked places met (Void x) = (met x ≡ false) × (slice_get places x ≡ Some Nowhere)
IsMarked places met part = Unit {0}

-- the variables that were met behind a part
abbrev pub met_after : (ℕ → Bool) → Part → ℕ → Bool
met_after met (New x place) k = if k == x then true else met k
met_after met (Void x) k = if k == x then true else met k
met_after met part k = met k

-- the marks of these parts are right, one after the other
abbrev pub AreMarked : List Place → (ℕ → Bool) → List Part → Type 0
AreMarked places met [] = Unit {0}
AreMarked places met (part ∷ parts) = IsMarked places met part × AreMarked places (met_after met part) parts

abbrev pub met_behind : (ℕ → Bool) → List Part → ℕ → Bool
met_behind met [] = met
met_behind met (part ∷ parts) = met_behind (met_after met part) parts

-- whether a variable was met, by this list; one that it hasn't counts as met
abbrev pub is_met : List Bool → ℕ → Bool
is_met list x = get_or list x true

-- The marks of these parts are right where these variables were met before them, and this list has those that are met
-- behind them.
pub record Marking (places : List Place) (met : ℕ → Bool) (parts : List Part) (list : List Bool) : Type 0 where
  pub marked : AreMarked places met parts
  pub behind : (x : ℕ) → met_behind met parts x ≡ is_met list x

-- Parts are added with right marks: whatever was emitted before them.
abbrev pub Marks : List Place → List Part → List Bool → List Bool → Type 0
Marks places added before after = (met : ℕ → Bool) (parts : List Part) → Marking places met parts before → Marking places met (parts ++ added) after

-- all of these variables are new
abbrev pub AreNew : List Part → Type 0
AreNew [] = Unit {0}
AreNew (New x place ∷ parts) = AreNew parts
AreNew (part ∷ parts) = ⊥
