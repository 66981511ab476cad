-- What is to be done at most of lists before a goal takes a step, and how many cells their goals are still to take.
use Rattle.std.specs.Prelude.{ℕ, zero, suc, ◌+◌, ◌-◌, List, [], ◌∷◌, ◌++◌, length, map, max, get_or, Option, Some, None}
use Rattle.iso_plain_core.specs.Costs.{todo_cost}
use Rattle.iso_search_core.specs.Bodies.{body_cost}
use Rattle.iso_compile.specs.Orders.{parts_cells}
use Rattle.iso_code.specs.Loaded.{part_at}
use Rattle.iso_writing.specs.Pushing.{cells_of_blocks}
use Rattle.iso_instructions.specs.declared.instructions.Goal.{Goal}
use Rattle.iso_instructions.specs.declared.instructions.Code.{Code}
use Rattle.iso_instructions.specs.declared.instructions.Instruction.{Instruction}
use Rattle.iso_instructions.specs.declared.instructions.Instruction.TheVariants.{Call, Execute, Proceed, TryElse, Jump}
use Rattle.iso_frames.specs.declared.frames.Rest.{Rest}
use Rattle.iso_frames.specs.declared.frames.Frame.{Frame}
use Rattle.iso_frames.specs.declared.frames.Work.{Work}
use Rattle.iso_frames.specs.declared.frames.Work.TheVariants.{Clause, Member}
use Rattle.iso_frames.specs.declared.frames.Next.{Next}
use Rattle.iso_frames.specs.declared.frames.Next.TheVariants as next

-- a number for each frame, by the address at which it goes on
abbrev pub Counts : Type 0
Counts = List (ℕ → ℕ)

-- the number at a place, this one where nothing is left
abbrev pub count_at : ℕ → Counts → Option Rest → ℕ
count_at none counts None = none
count_at none counts (Some r) = (get_or counts r.frame (λ address. 0)) r.address

-- a number for each frame behind those that have these, made of its work and the number behind it
abbrev pub counts_behind : (Work → ℕ → ℕ → ℕ) → ℕ → Counts → List Frame → Counts
counts_behind number none counts [] = []
counts_behind number none counts (f ∷ fs) =
    number f.work (count_at none counts f.behind) ∷ counts_behind number none
    (counts ++ number f.work (count_at none counts f.behind) ∷ []) fs

abbrev pub count_of : (Work → ℕ → ℕ → ℕ) → ℕ → List Frame → Option Rest → ℕ
count_of number none frames place = count_at none (counts_behind number none [] frames) place

-- ---- what is to be done

-- what is to be done of a frame, where this is to be done behind it
abbrev pub work_cost : Work → ℕ → ℕ → ℕ
work_cost (Clause code level) rest address = body_cost address rest
work_cost (Member todo) rest address = todo_cost todo rest

-- what is to be done from a place on
abbrev pub cost_of : List Frame → Option Rest → ℕ
cost_of frames place = count_of work_cost 1 frames place

abbrev pub first_cost : {W : Type 0} → List Frame → Next W → ℕ
first_cost frames (next.Member link) = todo_cost link.todo (cost_of frames link.behind)
first_cost frames (next.Goal word place) = suc (cost_of frames place)
first_cost frames (next.Code r) = cost_of frames (Some r)

-- ---- cells that goals are still to take

-- the cells of a compound of so many arguments; an atom takes none
abbrev pub compound_cells : ℕ → ℕ
compound_cells zero = 0
compound_cells (suc n) = suc (suc n)

-- the cells of a goal's arguments, and of the goal itself, which a built-in may need
abbrev pub goal_cells : Goal → ℕ
goal_cells g =
    cells_of_blocks g.arguments.blocks.items + parts_cells
    (map (part_at [] 0) g.arguments.operands.items) + compound_cells (length g.arguments.operands.items)

-- those of an instruction and what follows it, where these are those from each lower address on
abbrev pub instruction_cells : List ℕ → Instruction → ℕ
instruction_cells below (Call g) = goal_cells g + get_or below (length below - 1) 0
instruction_cells below (Execute g) = goal_cells g
instruction_cells below Proceed = 0
instruction_cells below (Jump l) = get_or below l 0
instruction_cells below (TryElse l) = max (get_or below (length below - 1) 0) (get_or below l 0)
instruction_cells below i = get_or below (length below - 1) 0

-- those from each address on, behind addresses with these
abbrev pub code_cells : List ℕ → List Instruction → List ℕ
code_cells below [] = []
code_cells below (i ∷ code) = instruction_cells below i ∷ code_cells (below ++ instruction_cells below i ∷ []) code

abbrev pub cells_from : Code → ℕ → ℕ
cells_from code address = get_or (code_cells [] code.body.items) address 0

abbrev pub work_cells : Work → ℕ → ℕ → ℕ
work_cells (Clause code level) rest address = cells_from code.value address + rest
work_cells (Member todo) rest address = rest

-- how many cells goals are still to take from a place on
abbrev pub pending_of : List Frame → Option Rest → ℕ
pending_of frames place = count_of work_cells 0 frames place

abbrev pub first_pending : {W : Type 0} → List Frame → Next W → ℕ
first_pending frames (next.Member link) = pending_of frames link.behind
first_pending frames (next.Goal word place) = pending_of frames place
first_pending frames (next.Code r) = pending_of frames (Some r)
