-- What is known of variables where the code of a head or of a goal begins.
use Rattle.std.specs.Prelude.{◌≡◌, ℕ, ◌+◌, Some, List, [], ◌∷◌, ◌++◌, map, length, replicate, get_or, Bool, true, false}
use Rattle.std.specs.List.{slice_get, slice_set}
use Rattle.iso_alloc.specs.declared.places.Place.{Place}
use Rattle.iso_alloc.specs.declared.places.Place.TheVariants.{Nowhere}
use Rattle.iso_compile.specs.declared.instructions.Part.{Part}
use Rattle.iso_compile.specs.declared.instructions.Part.TheVariants.{Void}
use Rattle.iso_compile.specs.declared.heads.Head.{Head}
use Rattle.iso_compile.specs.declared.goals.Arguments.{Arguments}
use Rattle.iso_compile.specs.declared.instructions.Block.{Block}
use Rattle.iso_compile.specs.declared.instructions.Get.{Get}
use Rattle.iso_compile.specs.Orders.{BlocksWithin, PartsWithin, parts_cells, block_cells}
use Rattle.iso_compile.specs.Emitted.{part_of, block_of, all_parts, part_got, is_met}

-- no variable of the plan was met
abbrev pub none_met : List Place → ℕ → Bool
none_met places = is_met (replicate (length places) false)

-- the parts of a head's code, in the order in which it meets them
abbrev pub head_parts : Head → List Part
head_parts h = map part_got h.gets.items ++ all_parts h.emitter.code.items

abbrev pub is_placed : Place → Bool
is_placed Nowhere = false
is_placed place = true

-- each variable that has a place was met: so none is new
abbrev pub all_placed : List Place → ℕ → Bool
all_placed places = is_met (map is_placed places)

-- the list has just those variables as met that have a place
pub record HasPlaced (places : List Place) (list : List Bool) : Type 0 where
  pub many : length list ≡ length places
  pub each : (x : ℕ) → is_met list x ≡ all_placed places x

-- the list without the void variables among these parts
abbrev pub without_voids : List Bool → List Part → List Bool
without_voids list [] = list
without_voids list (Void x ∷ ps) = without_voids (slice_set list x false) ps
without_voids list (p ∷ ps) = without_voids list ps

-- The registers of the code of a goal's arguments are among those from low on, and below its number of registers.
pub record IsWithin (low : ℕ) (code : Arguments) : Type 0 where
  pub blocks : BlocksWithin low code.registers (map block_of code.blocks.items)
  pub parts : PartsWithin low code.registers (map part_of code.parts.items)

-- Each variable that has a place was met, by this list, but those that are born later.
abbrev pub AreMet : List Place → List Bool → List Bool → Type 0
AreMet places born list = (x : ℕ) (place : Place) → slice_get places x ≡ Some place → is_placed place ≡ true → get_or born x false ≡ false → is_met list x ≡ true

-- how many cells the code of a goal's arguments takes, variables aside
abbrev pub arguments_cells : Arguments → ℕ
arguments_cells code = parts_cells (map part_of code.parts.items) + block_cells (map block_of code.blocks.items)

-- and the code of a head
abbrev pub head_cells : List Get → List Block → ℕ
head_cells gs bs = parts_cells (map part_of (map part_got gs)) + block_cells (map block_of bs)
