-- What code is once its names are atoms of a store.
use Rattle.std.specs.Prelude.{◌≡◌, ◌<◌, ◌≤◌, ◌+◌, ◌-◌, ℕ, max, List, [], ◌∷◌, ◌++◌, length, map, Bool, false, not, nat_lt, Some, if◌then◌else◌}
use Rattle.std.specs.List.{All, AllZip, list_any, slice_get}
use Rattle.std.specs.String.{string_bytes}
use Rattle.iso_model.specs.Terms.Integers.{is_short}
use Rattle.iso_alloc.specs.declared.places.Place.{Place}
use Rattle.iso_compile.specs.Table as table
use Rattle.iso_compile.specs.declared.instructions.Part.{Part}
use Rattle.iso_compile.specs.declared.instructions.Part.TheVariants as part
use Rattle.iso_compile.specs.declared.instructions.Block as compiled_block
use Rattle.iso_compile.specs.declared.instructions.Get as compiled_get
use Rattle.iso_compile.specs.declared.goals.Arguments as compiled_arguments
use Rattle.iso_compile.specs.Emitted as emitted
use Rattle.iso_code.specs.declared.operands.Operand.{Operand}
use Rattle.iso_code.specs.declared.operands.Operand.TheVariants as operand
use Rattle.iso_code.specs.declared.operands.Register.{Register}
use Rattle.iso_code.specs.declared.operands.Register.TheVariants.{Argument, Compound}
use Rattle.iso_code.specs.declared.operands.Block.{Block}
use Rattle.iso_code.specs.declared.operands.Get.{Get}
use Rattle.iso_code.specs.declared.operands.Head.{Head}
use Rattle.iso_code.specs.declared.operands.Arguments.{Arguments}
use Rattle.iso_code.specs.declared.loading.Side.{Side}
use Rattle.iso_code.specs.declared.loading.Side.TheVariants as side
use Rattle.iso_code.specs.Loaded as loaded
use Rattle.iso_code.specs.Loaded.{part_at, block_at, get_at, operand_got, all_operands, IsInside, IsSound, IsOfCompound, IsSoundGet, AreSound, IsPair}

-- ---- what is compiled

-- the register of a compound is one from low on
abbrev pub IsFrom : ℕ → table.Part → Type 0
IsFrom low (table.Inner r) = low ≤ r
IsFrom low part = Unit {0}

-- it has 1 to 255 arguments
pub record IsFull (b : table.Block) : Type 0 where
  pub some : 0 < length b.parts
  pub few : length b.parts < 256

-- its register is one from low on
abbrev pub IsAbove : ℕ → table.Block → Type 0
IsAbove low b = low ≤ b.register

-- the variable is one of so many
abbrev pub IsBelow : ℕ → Part → Type 0
IsBelow count (part.New x place) = x < count
IsBelow count (part.Old x place) = x < count
IsBelow count (part.Void x) = x < count
IsBelow count p = Unit {0}

-- the parts of a head, in the order in which its code meets them
abbrev pub parts_met : List compiled_get.Get → List compiled_block.Block → List Part
parts_met gs bs = map emitted.part_got gs ++ emitted.all_parts bs

-- ---- what is loaded

-- A variable that code meets for the first time is new in a head; in a goal it has its word.
abbrev pub first_operand : Side → ℕ → Operand
first_operand side.Head x = operand.New x
first_operand side.Goal x = operand.Old x

-- no variable that is met for the first time
abbrev pub IsOld : Operand → Type 0
IsOld (operand.New x) = ⊥
IsOld o = Unit {0}

-- whether it is an integer of more than 64 bits
abbrev pub is_wide : Operand → Bool
is_wide (operand.Integer z) = not (is_short z)
is_wide o = false

-- the block says whether one of its arguments is an integer of more than 64 bits
abbrev pub SaysWidth : Block → Type 0
SaysWidth b = b.wide ≡ list_any is_wide b.operands.items

-- the register of this number
abbrev pub register_in : ℕ → ℕ → ℕ → Register
register_in low arity r = if nat_lt r arity then Argument r else Compound (r - low)

-- one more than the number of the compound; 0 where there is none
abbrev pub behind_operand : Operand → ℕ
behind_operand (operand.Inner k) = k + 1
behind_operand o = 0

-- the highest of these
abbrev pub behind_operands : List Operand → ℕ
behind_operands [] = 0
behind_operands (o ∷ os) = max (behind_operand o) (behind_operands os)

abbrev pub behind_register : Register → ℕ
behind_register (Compound k) = k + 1
behind_register (Argument i) = 0

-- one more than the highest number of a compound in these blocks; 0 where there is none
abbrev pub behind_blocks : List Block → ℕ
behind_blocks [] = 0
behind_blocks (b ∷ bs) = max (max (behind_register b.register) (behind_operands b.operands.items)) (behind_blocks bs)

-- the variable is new
abbrev pub IsNew : Part → Type 0
IsNew (part.New x place) = Unit {0}
IsNew p = ⊥

-- the operand is that of the variable, which is new
abbrev pub IsOfNew : Part → Operand → Type 0
IsOfNew (part.New x place) o = o ≡ operand.New x
IsOfNew p o = ⊥

-- The operands are those of these variables, each of which is new.
-- - inside: all that they name is there, where their variables are below this count.
-- - marked, behind: variables are new where they were, and those that are met behind them are the same.
pub record IsLoadedFresh (fresh : List Part) (os : List Operand) : Type 0 where
  pub inside : (atoms count : ℕ) → All (IsBelow count) fresh → All (IsInside atoms count 0) os
  pub marked : (places : List Place) (met : ℕ → Bool) → emitted.AreMarked places met fresh → loaded.AreMarked met os
  pub behind : (met : ℕ → Bool) (x : ℕ) → emitted.met_behind met fresh x ≡ loaded.met_behind met os x

-- where these are the names of the atoms, and compounds have the registers from low on
module _ (names : List (List ℕ)) (low : ℕ) where
  -- the operand is that of the part
  abbrev pub IsLoaded : Side → Part → Operand → Type 0
  IsLoaded s (part.New x place) o = o ≡ first_operand s x
  IsLoaded s (part.Old x place) o = o ≡ operand.Old x
  IsLoaded s (part.Void x) o = o ≡ first_operand s x
  IsLoaded s (part.Integer z) o = o ≡ operand.Integer z
  IsLoaded s (part.Atom a) o = (n : ℕ) × (o ≡ operand.Atom n) × (slice_get names n ≡ Some (string_bytes a))
  IsLoaded s (part.Inner r) o = (k : ℕ) × (o ≡ operand.Inner k) × (low + k ≡ r)

  -- the operand is that of a part of a body
  abbrev pub IsLoadedPart : Part → Operand → Type 0
  IsLoadedPart = IsLoaded side.Goal

  -- the block is that of the one that was compiled, where so many registers are those of arguments
  pub record IsLoadedBlock (arity : ℕ) (s : Side) (b : compiled_block.Block) (l : Block) : Type 0 where
    pub register : l.register ≡ register_in low arity b.register
    pub name : slice_get names l.name ≡ Some (string_bytes b.name)
    pub operands : AllZip (IsLoaded s) b.parts.items l.operands.items
    pub inner : l.inner ≡ b.inner
    pub wide : SaysWidth l
    pub pair : IsPair l.operands.items l.inner l.wide l.pair

  -- what meets an argument is what was compiled
  pub record IsLoadedGet (g : compiled_get.Get) (l : Get) : Type 0 where
    pub argument : l.argument ≡ g.register
    pub operand : IsLoaded side.Head g.part l.operand

  -- The code of a head is what was compiled.
  -- - gets_are, blocks_are: by the table it is the same.
  -- - gets_sound, blocks_sound: all that it names is there, where its variables are below this count.
  -- - marked, behind: variables are new where they were, and those that are met behind it are the same.
  -- - wide: each block says whether it has a wide integer.
  -- - compounds: there are as many compounds as have numbers.
  pub record IsLoadedHead (arity : ℕ) (gs : List compiled_get.Get) (bs : List compiled_block.Block) (h : Head) : Type 0 where
    pub gets_are : map (get_at names low) h.gets.items ≡ map emitted.get_of gs
    pub blocks_are : map (block_at names low) h.blocks.items ≡ map emitted.block_of bs
    pub gets_sound : (count : ℕ) → All (IsBelow count) (parts_met gs bs) → All (IsSoundGet (length names) arity count) h.gets.items
    pub blocks_sound : (count : ℕ) → All (IsBelow count) (parts_met gs bs) → AreSound (length names) arity count h.compounds h.blocks.items
    pub marked : (places : List Place) (met : ℕ → Bool) → emitted.AreMarked places met (parts_met gs bs) → loaded.AreMarked met (map operand_got h.gets.items ++ all_operands h.blocks.items)
    pub behind : (met : ℕ → Bool) (x : ℕ) → emitted.met_behind met (parts_met gs bs) x ≡ loaded.met_behind met (map operand_got h.gets.items ++ all_operands h.blocks.items) x
    pub wide : All SaysWidth h.blocks.items
    pub compounds : h.compounds ≡ behind_blocks h.blocks.items

  -- The code of a goal's arguments is what was compiled.
  -- - parts_are, blocks_are: by the table it is the same.
  -- - operands_sound, blocks_sound: all that it names is there, where its variables are below this count.
  -- - of_compounds: the blocks make compounds.
  -- - old: no variable is new.
  -- - wide: each block says whether it has a wide integer.
  -- - compounds: there are as many compounds as have numbers.
  pub record IsLoadedArguments (code : compiled_arguments.Arguments) (a : Arguments) : Type 0 where
    pub parts_are : map (part_at names low) a.operands.items ≡ map emitted.part_of code.parts.items
    pub blocks_are : map (block_at names low) a.blocks.items ≡ map emitted.block_of code.blocks.items
    pub operands_sound : (count : ℕ) → All (IsBelow count) code.parts.items → All (IsInside (length names) count a.compounds) a.operands.items
    pub blocks_sound : (count : ℕ) → All (IsBelow count) (emitted.all_parts code.blocks.items) → All (IsSound (length names) count a.compounds) a.blocks.items
    pub of_compounds : All (IsOfCompound a.compounds) a.blocks.items
    pub old : All IsOld (a.operands.items ++ all_operands a.blocks.items)
    pub wide : All SaysWidth a.blocks.items
    pub compounds : a.compounds ≡ max (behind_operands a.operands.items) (behind_blocks a.blocks.items)
