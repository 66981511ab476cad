-- What the code of a clause or of a goal is.
use Rattle.std.specs.Prelude.{◌≡◌, ◌≤◌, ◌-◌, ℕ, length, List, [], ◌∷◌, ◌++◌, map, Bool, true, None, is_some, ◌&&◌, if◌then◌else◌}
use Rattle.iso_model.specs.Terms.Sizes.{size}
use Rattle.iso_model.specs.Search.Bodies.{Body, is_true}
use Rattle.iso_prep.specs.Preparations.{Preparation}
use Rattle.iso_alloc.specs.Plans.{Layout, arguments_of}
use Rattle.iso_alloc.specs.declared.places.Place.{Place}
use Rattle.iso_compile.specs.declared.clauses.Code.{Code}
use Rattle.iso_compile.specs.declared.control.Instruction.{Instruction}
use Rattle.iso_compile.specs.declared.control.Mark.TheVariants.{Clause}
use Rattle.iso_compile.specs.declared.instructions.Part.{Part}
use Rattle.iso_compile.specs.Heads.{gets, head_blocks}
use Rattle.iso_compile.specs.CodeLaws.{MeetsCalls}
use Rattle.iso_compile.specs.Control.{Member, Goal, Does, AreBehind, AreOld, AreSized}
use Rattle.iso_compile.specs.Ways.{Ways, kept_behind}
use Rattle.iso_compile.specs.Emitted.{get_of, block_of, part_got, all_parts, AreMarked, AreNew}
use Rattle.iso_compile.specs.Emitting.{none_met, all_placed, head_cells}

-- the members that a body is when its code begins: in a clause, one that is `true` alone is no goal
abbrev pub body_members : Bool → Body → List Member
body_members has_head b = if has_head && is_true b then [] else Goal b Clause ∷ []

-- by this plan, the code of a body does what the body is
abbrev pub BodyDoes : Layout → Bool → List Instruction → Body → Type 0
BodyDoes plan has_head code b = Does plan code (body_members has_head b)

-- the parts that are met before the body, in their order
abbrev pub entry_parts : Code → List Part
entry_parts c = (map part_got c.gets.items ++ all_parts c.blocks.items) ++ c.fresh.items

-- the variables that have a value before the body
abbrev pub entry_met : List Place → Code → ℕ → Bool
entry_met places c = kept_behind (none_met places) (entry_parts c)

-- The code of what is prepared, with this plan.
-- - gets_are, blocks_are: the code of the head is that of its arguments; compounds in them that are deeper have the
--   registers behind those of the plan, which has one for each argument.
-- - meets: the code of the head meets each call as the search tries a clause.
-- - marked: a variable is new exactly where the code meets it for the first time.
-- - fresh: each variable that gets a cell before the body is new there.
-- - does: the code of the body selects its goals as the search does. The code of each call is that of its goal's
--   arguments, with the registers behind those of the plan for compounds.
-- - cells: the head takes at most the cells that its arguments count, and each call those that its goal's count.
-- - ways: on each way through the body a variable is new where it gets its value, and has one elsewhere.
-- - asked: in a goal each variable that has a place has a value before the body, since it is asked for behind it.
-- - old: no variable is new in a call: each has its value before, from the head, a cell or `is/2`.
-- - behind: the compounds of calls are behind the registers of the plan.
-- - sized: slots and registers are enough, and the slots of levels are behind those of variables.
pub record IsCode (p : Preparation) (plan : Layout) (c : Code) : Type 0 where
  pub gets_are : map get_of c.gets.items ≡ gets 0 (arguments_of p.head)
  pub blocks_are : map block_of c.blocks.items ≡ head_blocks 0 plan.registers (arguments_of p.head)
  pub meets : MeetsCalls (map get_of c.gets.items) (map block_of c.blocks.items) (arguments_of p.head)
  pub marked : AreMarked plan.places (none_met plan.places) (entry_parts c)
  pub fresh : AreNew c.fresh.items
  pub cells : head_cells c.gets.items c.blocks.items ≤ size (arguments_of p.head)
  pub does : BodyDoes plan (is_some p.head) c.body.items p.body
  pub ways : Ways plan.places c.body.items (length c.body.items - 1) (entry_met plan.places c)
  pub asked : p.head ≡ None → (x : ℕ) → all_placed plan.places x ≡ true → entry_met plan.places c x ≡ true
  pub old : AreOld c.body.items
  pub behind : AreBehind plan.registers c.body.items
  pub sized : AreSized c.slots c.registers c.body.items
  pub slots : plan.slots ≤ c.slots
  pub registers : plan.registers ≤ c.registers
