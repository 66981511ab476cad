-- The goal that an instruction calls, and what putting its arguments comes to.
use Rattle.std.specs.Prelude.{◌≡◌, ◌≤◌, ◌<◌, ◌+◌, ◌-◌, ◌⊎◌, ℕ, List, [], ◌∷◌, length, map, Option, Some}
use Rattle.std.specs.Global.{Global}
use Rattle.std.specs.List.{All, slice_get}
use Rattle.std.specs.declared.rc.Rc.{Rc}
use Rattle.iso_atoms.specs.Texts.{text_at}
use Rattle.iso_model.specs.Terms.Trees.{Tree}
use Rattle.iso_model.specs.Terms.Substitutions.{apply}
use Rattle.iso_model.specs.Search.Bodies.{Run}
use Rattle.iso_model.specs.Search.Walker.{Member, Goal}
use Rattle.iso_model.specs.Search.RunLaws.Sameness.{open_list}
use Rattle.iso_store_core.specs.Presents.{Present, Holds, meaning}
use Rattle.iso_compile.specs.Orders.{parts_cells}
use Rattle.iso_code.specs.Loaded.{part_at}
use Rattle.iso_writing.specs.Pushing.{cells_of_blocks}
use Rattle.iso_instructions.specs.declared.instructions.Goal as instruction
use Rattle.iso_instructions.specs.declared.instructions.Code.{Code}
use Rattle.iso_instructions.specs.declared.instructions.Instruction.{Instruction}
use Rattle.iso_instructions.specs.declared.instructions.Instruction.TheVariants.{Call, Execute}
use Rattle.iso_frames.specs.declared.frames.Rest.{Rest}
use Rattle.iso_frames.specs.declared.frames.Level.{Level}
use Rattle.iso_frames.specs.declared.frames.Frame.{Frame}
use Rattle.iso_frames.specs.Frames.{Stack, Chain}
use Rattle.iso_frames.specs.Costs.{cost_of, pending_of, compound_cells}
use Rattle.iso_environments.specs.declared.putting.Put.{Put}
use Rattle.iso_environments.specs.Goals.{goal_of}
use Rattle.iso_environments.specs.Leveled.{IsAtClause}

-- the instruction at this address calls the goal
abbrev pub IsCalledAt : List Instruction → ℕ → instruction.Goal → Type 0
IsCalledAt code a g = (slice_get code a ≡ Some (Call g)) ⊎ (slice_get code a ≡ Some (Execute g))

-- The frame at this place is that of a clause, whose instruction there calls the goal.
pub record IsGoalThere (frames : List Frame) (r : Rest) (g : instruction.Goal) : Type 0 where
  pub frame : Frame
  pub code : Rc Code Global
  pub level : Option Level
  pub clause : IsAtClause frames r frame code level
  pub called : IsCalledAt code.value.body.items r.address g

-- the instruction there calls some goal
abbrev pub IsCallThere : List Frame → Rest → Type 0
IsCallThere frames r = (g : instruction.Goal) × IsGoalThere frames r g

-- The instruction there calls the goal, and the list behind it begins at this place: at the address below, or behind
-- the clause where it is the last goal.
abbrev pub GoesBehind : List Instruction → Rest → Option Rest → instruction.Goal → Option Rest → Type 0
GoesBehind code r behind g place =
    ((slice_get code r.address ≡ Some (Call g))
    × (place ≡ Some (record { frame = r.frame; address = r.address - 1 })))
    ⊎ ((slice_get code r.address ≡ Some (Execute g)) × (place ≡ behind))

-- how many cells the goal's arguments take at most
abbrev pub arguments_cells : instruction.Goal → ℕ
arguments_cells g =
    cells_of_blocks g.arguments.blocks.items + parts_cells (map (part_at [] 0) g.arguments.operands.items)

-- Behind the goal less is to be done, and goals are to take fewer cells: by those of its arguments, and those of a
-- compound of so many.
pub record IsBehind (frames : List Frame) (r : Rest) (g : instruction.Goal) (many : ℕ) (place : Option Rest)
    : Type 0 where
  pub cost : cost_of frames place < cost_of frames (Some r)
  pub pending : arguments_cells g + compound_cells many + pending_of frames place ≤ pending_of frames (Some r)

-- The goal that comes first of the list, conjunctions in front taken apart, has this name and words for these
-- arguments, and the list behind it begins at the place. These are the names of atoms.
pub record HasPut {W : Type 0} (atom_word : ℕ → W) (names : List (List ℕ)) (q : Present W) (k : Stack W) (put : Put)
    (arguments : List W) (all : List Member) : Type 0 where
  pub term : Tree
  pub mark : ℕ
  pub behind : List Member
  pub is : open_list all ≡ Goal (Run term) mark ∷ behind
  pub name : put.name < length names
  pub value : apply q.substitution term ≡ goal_of (text_at names put.name) (map (meaning q) arguments)
  pub hold : All (Holds q) arguments
  pub list : Chain atom_word q k put.behind behind
