-- Blocks that are still to be emitted, and what comes of them.
use Rattle.std.specs.Prelude.{ℕ, zero, suc, ◌+◌, ◌-◌, ◌*◌, List, [], ◌∷◌, ◌++◌, map, Bool, true, false}
use Rattle.iso_model.specs.Terms.Trees.{Tree, Variable, Integer, Name}
use Rattle.iso_model.specs.Terms.TermOf.{row_of}
use Rattle.iso_model.specs.Terms.Sizes.{size}
use Rattle.iso_compile.specs.declared.emitting.Task.{Task}
use Rattle.iso_compile.specs.declared.emitting.Task.TheVariants.{Row, Close}
use Rattle.iso_compile.specs.declared.emitting.Emitter.{Emitter}
use Rattle.iso_compile.specs.Table.{Block}
use Rattle.iso_compile.specs.TermCode.{deep, blocks}
use Rattle.iso_compile.specs.Heads.{head_blocks}
use Rattle.iso_alloc.specs.declared.places.Place.{Place}
use Rattle.iso_compile.specs.declared.instructions.Part.{Part}
use Rattle.iso_compile.specs.Emitted.{block_of, all_parts, Marking}

abbrev pub is_atomic : Tree → Bool
is_atomic (Variable n) = true
is_atomic (Integer z) = true
is_atomic (Name a) = true
is_atomic t = false

-- the blocks so far, and the next register that is free
pub record Stage : Type 0 where
  pub code : List Block
  pub next : ℕ

abbrev pub stage_of : Emitter → Stage
stage_of e = record { code = map block_of e.code.items; next = e.next }

-- the blocks, of which the one at this place has so many inner ones
abbrev pub closed : ℕ → ℕ → List Block → List Block
closed at n [] = []
closed zero n (b ∷ bs) = record b { inner = n } ∷ bs
closed (suc at) n (b ∷ bs) = b ∷ closed at n bs

-- behind the compounds among these terms, which are in the registers from r on
abbrev pub with_row : ℕ → Tree → Stage → Stage
with_row r ts s = record { code = s.code ++ blocks r s.next ts; next = s.next + deep ts }

-- behind the compounds among the arguments of a head from the one of this number on, each in the register of its number
abbrev pub with_head : ℕ → Tree → Stage → Stage
with_head i ts s = record { code = s.code ++ head_blocks i s.next ts; next = s.next + deep ts }

abbrev pub with_task : Task → Stage → Stage
with_task (Row r ts) s = with_row r (row_of ts.now) s
with_task (Close at first) s = record s { code = closed at (s.next - first) s.code }

-- behind these tasks, the last of which comes first
abbrev pub with_tasks : List Task → Stage → Stage
with_tasks [] s = s
with_tasks (task ∷ tasks) s = with_task task (with_tasks tasks s)

abbrev pub task_load : Task → ℕ
task_load (Row r ts) = 1 + 2 * size (row_of ts.now)
task_load (Close at first) = 1

abbrev pub tasks_load : List Task → ℕ
tasks_load [] = 0
tasks_load (task ∷ tasks) = task_load task + tasks_load tasks

-- Blocks are emitted with right marks: whatever was emitted before them.
abbrev pub Goes : List Place → Emitter → Emitter → Type 0
Goes places before after =
    (met : ℕ → Bool) (parts : List Part) → Marking places met (parts ++ all_parts before.code.items) before.met.items → Marking places met (parts ++ all_parts after.code.items) after.met.items
