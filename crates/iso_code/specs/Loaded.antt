-- What operands and blocks are by the table of instructions, and what their marks say of variables.
use Rattle.std.specs.Prelude.{◌≡◌, ◌<◌, ◌≤◌, ◌+◌, ◌==◌, ℕ, List, [], ◌∷◌, ◌++◌, length, map, take, Bool, true, false, if◌then◌else◌}
use Rattle.std.specs.List.{All}
use Rattle.iso_atoms.specs.Texts.{text_at}
use Rattle.iso_model.specs.Terms.Integers.{is_short}
use Rattle.iso_compile.specs.Table as table
use Rattle.iso_compile.specs.Heads as heads
use Rattle.iso_code.specs.declared.operands.Operand.{Operand}
use Rattle.iso_code.specs.declared.operands.Operand.TheVariants.{New, Old, Integer, Atom, Inner}
use Rattle.iso_code.specs.declared.operands.Register.{Register}
use Rattle.iso_code.specs.declared.operands.Register.TheVariants.{Argument, Compound}
use Rattle.iso_code.specs.declared.operands.Pair.{Pair}
use Rattle.iso_code.specs.declared.operands.Pair.TheVariants.{NewNew, OldNew, NewOld, Other}
use Rattle.iso_code.specs.declared.operands.Block.{Block}
use Rattle.iso_code.specs.declared.operands.Get.{Get}

-- where these are the names of the atoms, and compounds have the table's registers from low on
module _ (names : List (List ℕ)) (low : ℕ) where
  abbrev pub part_at : Operand → table.Part
  part_at (New x) = table.Place x
  part_at (Old x) = table.Place x
  part_at (Integer z) = table.Number z
  part_at (Atom a) = table.Atom (text_at names a)
  part_at (Inner k) = table.Inner (low + k)

  abbrev pub register_at : Register → ℕ
  register_at (Argument i) = i
  register_at (Compound k) = low + k

  abbrev pub block_at : Block → table.Block
  block_at b = record { register = register_at b.register; name = text_at names b.name; parts = map part_at b.operands.items; inner = b.inner }

  abbrev pub get_at : Get → heads.Get
  get_at g = record { register = g.argument; part = part_at g.operand }

-- The operand's variable, compound or atom is there, of so many atoms, variables and compounds.
abbrev pub IsInside : ℕ → ℕ → ℕ → Operand → Type 0
IsInside names count compounds (New x) = x < count
IsInside names count compounds (Old x) = x < count
IsInside names count compounds (Integer z) = Unit {0}
IsInside names count compounds (Atom a) = a < names
IsInside names count compounds (Inner k) = k < compounds

-- it is no integer of more than 64 bits
abbrev pub IsNarrow : Operand → Type 0
IsNarrow (Integer z) = is_short z ≡ true
IsNarrow operand = Unit {0}

-- The pair is what a block's arguments are, where so many blocks behind it are those of compounds in it, and where it
-- says whether one of them is an integer of more than 64 bits.
abbrev pub IsPair : List Operand → ℕ → Bool → Pair → Type 0
IsPair operands inner wide (NewNew x y) = (inner ≡ 0) × (wide ≡ false) × (operands ≡ New x ∷ New y ∷ [])
IsPair operands inner wide (OldNew x y) = (inner ≡ 0) × (wide ≡ false) × (operands ≡ Old x ∷ New y ∷ [])
IsPair operands inner wide (NewOld x y) = (inner ≡ 0) × (wide ≡ false) × (operands ≡ New x ∷ Old y ∷ [])
IsPair operands inner wide Other = Unit {0}

-- A block that can be met and made: it has 1 to 255 arguments, and all that it names is there.
pub record IsSound (names count compounds : ℕ) (b : Block) : Type 0 where
  pub name : b.name < names
  pub some : 0 < length b.operands.items
  pub few : length b.operands.items < 256
  pub inside : All (IsInside names count compounds) b.operands.items
  pub narrow : b.wide ≡ false → All IsNarrow b.operands.items
  pub pair : IsPair b.operands.items b.inner b.wide b.pair

-- the register is there, of so many arguments and compounds
abbrev pub IsRegister : ℕ → ℕ → Register → Type 0
IsRegister arguments compounds (Argument i) = i < arguments
IsRegister arguments compounds (Compound k) = k < compounds

-- the block's register is a compound, of so many
abbrev pub IsOfCompound : ℕ → Block → Type 0
IsOfCompound compounds b = (k : ℕ) × (b.register ≡ Compound k) × (k < compounds)

-- The blocks of a head can be met: all of them are sound, their registers are there, and those of compounds in a
-- block stand behind it and have compounds for registers.
abbrev pub AreSound : ℕ → ℕ → ℕ → ℕ → List Block → Type 0
AreSound names arguments count compounds [] = Unit {0}
AreSound names arguments count compounds (b ∷ bs) =
    IsSound names count compounds b × IsRegister arguments compounds b.register × (b.inner ≤ length bs) × All (IsOfCompound compounds) (take b.inner bs) × AreSound names arguments count compounds bs

-- What meets an argument is no compound, and all that it names is there.
pub record IsSoundGet (names arguments count : ℕ) (g : Get) : Type 0 where
  pub argument : g.argument < arguments
  pub inside : IsInside names count 0 g.operand

-- ---- marks

-- The mark is right where these variables were met before it: a variable is new where it wasn't met.
abbrev pub IsMarked : (ℕ → Bool) → Operand → Type 0
IsMarked met (New x) = met x ≡ false
IsMarked met (Old x) = met x ≡ true
IsMarked met operand = Unit {0}

-- the variables that were met behind an operand
abbrev pub met_after : (ℕ → Bool) → Operand → ℕ → Bool
met_after met (New x) k = if k == x then true else met k
met_after met operand k = met k

-- the marks are right one after the other
abbrev pub AreMarked : (ℕ → Bool) → List Operand → Type 0
AreMarked met [] = Unit {0}
AreMarked met (operand ∷ operands) = IsMarked met operand × AreMarked (met_after met operand) operands

abbrev pub met_behind : (ℕ → Bool) → List Operand → ℕ → Bool
met_behind met [] = met
met_behind met (operand ∷ operands) = met_behind (met_after met operand) operands

-- its variable was met
abbrev pub IsMet : (ℕ → Bool) → Operand → Type 0
IsMet met (New x) = met x ≡ true
IsMet met (Old x) = met x ≡ true
IsMet met operand = Unit {0}

-- the operands of these blocks, in the order in which the code meets them
abbrev pub all_operands : List Block → List Operand
all_operands [] = []
all_operands (b ∷ bs) = b.operands.items ++ all_operands bs

-- What is met here for the first time is older than all that isn't met behind it.
abbrev pub NewAreNext : (ℕ → Bool) → (ℕ → Bool) → Type 0
NewAreNext met behind = (x y : ℕ) → met x ≡ false → behind x ≡ true → behind y ≡ false → x ≤ y

-- So it is in each block with those of compounds in it.
abbrev pub AreNextGroups : (ℕ → Bool) → List Block → Type 0
AreNextGroups met [] = Unit {0}
AreNextGroups met (b ∷ bs) = NewAreNext met (met_behind met (all_operands (b ∷ take b.inner bs))) × AreNextGroups (met_behind met b.operands.items) bs

-- the operands of gets
abbrev pub operand_got : Get → Operand
operand_got g = g.operand
