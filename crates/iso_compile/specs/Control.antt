-- The table of instructions for bodies: what code does with the list of goals (ISO/IEC 13211-1:1995, 7.7.3, 7.8).
use Rattle.std.specs.Prelude.{◌≡◌, ◌≤◌, ◌<◌, ◌+◌, ◌-◌, ℕ, suc, List, [], ◌∷◌, ◌++◌, length, map, Option, MatchOption, is_some}
use Rattle.std.specs.String.{string_bytes}
use Rattle.iso_model.specs.Terms.Trees.{Tree, Variable, Name, Apply, End, More}
use Rattle.iso_model.specs.Terms.Sizes.{size}
use Rattle.iso_model.specs.Search.Bodies as bodies
use Rattle.iso_model.specs.Search.Bodies.{Body, Run, And, Or, If, Choose, map_body}
use Rattle.iso_model.specs.Search.Walker as walker
use Rattle.iso_prep.specs.Trees.{At}
use Rattle.iso_compile.specs.CodeLaws.{Calls}
use Rattle.iso_compile.specs.TermCode.{tops, parts, blocks}
use Rattle.iso_alloc.specs.Plans.{Layout}
use Rattle.iso_compile.specs.Emitted.{block_of, part_of, all_parts, AreMarked}
use Rattle.iso_compile.specs.Emitting.{all_placed, arguments_cells, IsWithin}
use Rattle.iso_compile.specs.Expressions.{step_parts}
use Rattle.iso_compile.specs.Evaluations.{ComesTo, is_in_line}
use Rattle.iso_compile.specs.declared.instructions.Part.{Part}
use Rattle.iso_compile.specs.declared.instructions.Part.TheVariants.{New}
use Rattle.iso_compile.specs.declared.control.Mark.{Mark}
use Rattle.iso_compile.specs.declared.control.Mark.TheVariants.{Clause, Level, AboveLevel}
use Rattle.iso_compile.specs.declared.control.Instruction.{Instruction}
use Rattle.iso_compile.specs.declared.control.Instruction.TheVariants.{Call, Execute, Is, Compare, Proceed, Cut, GetLevel, TryElse, Jump}
use Rattle.iso_compile.specs.declared.goals.Call as called

-- A member of the list of goals, with marks as code has them: a goal with its cut mark, or a cut back to a mark.
pub data Member : Type 0 where
  Goal : (body : Body) → (mark : Mark) → Member
  CutTo : (mark : Mark) → Member

-- the height of a mark, where the clause was called at this height and slots keep these
abbrev pub height : ℕ → (ℕ → ℕ) → Mark → ℕ
height called kept Clause = called
height called kept (Level k) = kept k
height called kept (AboveLevel k) = suc (kept k)

-- the members of the search's list, where the clause's variables are numbered from this number on
abbrev pub members : ℕ → ℕ → (ℕ → ℕ) → List Member → List walker.Member
members next called kept [] = []
members next called kept (Goal b m ∷ ms) = walker.Goal (map_body (λ x. Variable (next + x)) b) (height called kept m) ∷ members next called kept ms
members next called kept (CutTo m ∷ ms) = walker.CutTo (height called kept m) ∷ members next called kept ms

-- the mark is no level that this slot or one behind it keeps
abbrev pub IsOlder : ℕ → Mark → Type 0
IsOlder k Clause = Unit {0}
IsOlder k (Level j) = j < k
IsOlder k (AboveLevel j) = j < k

-- none of the marks is
abbrev pub AreOlder : ℕ → List Member → Type 0
AreOlder k [] = Unit {0}
AreOlder k (Goal b m ∷ ms) = IsOlder k m × AreOlder k ms
AreOlder k (CutTo m ∷ ms) = IsOlder k m × AreOlder k ms

-- the arguments that a goal is called with; a variable or a number is the only one of call/1
abbrev pub called_arguments : Tree → Tree
called_arguments (Name a) = End
called_arguments (Apply f ts) = ts
called_arguments t = More t End

-- how much the arguments of a goal count; a variable or a number is that of call/1
abbrev pub goal_size : Tree → ℕ
goal_size (Name a) = 0
goal_size (Apply f ts) = size ts
goal_size t = size t

-- The code of a call is that of this goal, where compounds have the registers from this one on.
-- - calls: the name with the arguments that the code makes is the goal.
-- - parts_are, blocks_are: the code is that of the goal's arguments; compounds that are deeper in them have the
--   registers behind those of the ones among them.
-- - cells: it takes at most the cells that the arguments count.
pub record IsCall (low : ℕ) (c : called.Call) (t : Tree) : Type 0 where
  pub calls : Calls (string_bytes c.name) (map block_of c.arguments.blocks.items) (map part_of c.arguments.parts.items) t
  pub parts_are : map part_of c.arguments.parts.items ≡ parts low (called_arguments t)
  pub blocks_are : map block_of c.arguments.blocks.items ≡ blocks low (low + tops (called_arguments t)) (called_arguments t)
  pub cells : arguments_cells c.arguments ≤ goal_size t

-- From this address on, code does what these members are, step by step as the search does it (7.8.4 to 7.8.8). It goes
-- on at lower addresses alone. The plan's slots are for variables; levels have slots behind them. Compounds of calls
-- have registers behind those of the plan.
pub data Continues (plan : Layout) (code : List Instruction) : ℕ → List Member → Type 0 where
  proceeds : {a : ℕ} → At code a Proceed → Continues plan code a []
  executes : {a : ℕ} {c : called.Call} {t : Tree} {m : Mark} → At code a (Execute c) → IsCall plan.registers c t → Continues plan code a (Goal (Run t) m ∷ [])
  calls : {a : ℕ} {c : called.Call} {t : Tree} {m : Mark} {rest : List Member} → At code (suc a) (Call c) → IsCall plan.registers c t → Continues plan code a rest → Continues plan code (suc a) (Goal (Run t) m ∷ rest)
  answers : {a : ℕ} {i : Instruction} {t : Tree} {m : Mark} {rest : List Member} → At code (suc a) i → ComesTo i t → Continues plan code a rest → Continues plan code (suc a) (Goal (Run t) m ∷ rest)
  cuts : {a : ℕ} {m : Mark} {rest : List Member} → At code (suc a) (Cut m) → Continues plan code a rest → Continues plan code (suc a) (Goal bodies.Cut m ∷ rest)
  cuts_back : {a : ℕ} {m : Mark} {rest : List Member} → At code (suc a) (Cut m) → Continues plan code a rest → Continues plan code (suc a) (CutTo m ∷ rest)
  joins : {a : ℕ} {x y : Body} {m : Mark} {rest : List Member} → Continues plan code a (Goal x m ∷ Goal y m ∷ rest) → Continues plan code a (Goal (And x y) m ∷ rest)
  tries : {a l : ℕ} {x y : Body} {m : Mark} {rest : List Member} → At code (suc a) (TryElse l) → l ≤ a → Continues plan code a (Goal x m ∷ rest) → Continues plan code l (Goal y m ∷ rest)
      → Continues plan code (suc a) (Goal (Or x y) m ∷ rest)
  commits : {a k : ℕ} {x y : Body} {m : Mark} {rest : List Member} → At code (suc a) (GetLevel k) → plan.slots ≤ k → AreOlder k (Goal y m ∷ rest)
      → Continues plan code a (Goal x (Level k) ∷ CutTo (Level k) ∷ Goal y m ∷ rest) → Continues plan code (suc a) (Goal (If x y) m ∷ rest)
  chooses : {a k l : ℕ} {x y z : Body} {m : Mark} {rest : List Member} → At code (suc (suc a)) (GetLevel k) → At code (suc a) (TryElse l) → l ≤ a → plan.slots ≤ k → AreOlder k (Goal y m ∷ rest)
      → Continues plan code a (Goal x (AboveLevel k) ∷ CutTo (Level k) ∷ Goal y m ∷ rest) → Continues plan code l (Goal z m ∷ rest)
      → Continues plan code (suc (suc a)) (Goal (Choose x y z) m ∷ rest)
  jumps : {a l : ℕ} {ms : List Member} → At code a (Jump l) → l < a → Continues plan code l ms → Continues plan code a ms

-- Code does so from its last instruction on, which is where it begins.
pub record Does (plan : Layout) (code : List Instruction) (ms : List Member) : Type 0 where
  pub some : 0 < length code
  pub goes : Continues plan code (length code - 1) ms

-- the parts of an instruction, in the order in which it meets them
abbrev pub own_parts : Instruction → List Part
own_parts (Call c) = c.arguments.parts.items ++ all_parts c.arguments.blocks.items
own_parts (Execute c) = c.arguments.parts.items ++ all_parts c.arguments.blocks.items
own_parts (Is p ks) = step_parts ks.items ++ p ∷ []
own_parts (Compare c ks) = step_parts ks.items
own_parts i = []

-- the compounds of a call are in registers from this one on
abbrev pub IsBehind : ℕ → Instruction → Type 0
IsBehind low (Call c) = IsWithin low c.arguments
IsBehind low (Execute c) = IsWithin low c.arguments
IsBehind low i = Unit {0}

-- none of these parts is a variable that gets its value there
abbrev pub NoneNew : List Part → Type 0
NoneNew [] = Unit {0}
NoneNew (New x place ∷ parts) = ⊥
NoneNew (part ∷ parts) = NoneNew parts

-- no variable gets its value in a call
abbrev pub IsOld : Instruction → Type 0
IsOld (Call c) = NoneNew (own_parts (Call c))
IsOld (Execute c) = NoneNew (own_parts (Execute c))
IsOld i = Unit {0}

-- The marks of an instruction's parts are right, where each variable that has a place has its value; and the compounds
-- of a call are behind the registers of the plan.
pub record IsRight (plan : Layout) (i : Instruction) : Type 0 where
  pub marked : AreMarked plan.places (all_placed plan.places) (own_parts i)
  pub behind : IsBehind plan.registers i

-- What making the instruction of a goal gives: just for one that is in line, an instruction that comes to what the goal
-- comes to, with right marks.
pub record MakesInLine (plan : Layout) (t : Tree) (made : Option Instruction) : Type 0 where
  pub some : is_some made ≡ is_in_line t
  pub comes : MatchOption made (Unit {0}) (λ i. ComesTo i t)
  pub right : MatchOption made (Unit {0}) (λ i. IsRight plan i)

abbrev pub AreRight : Layout → List Instruction → Type 0
AreRight plan [] = Unit {0}
AreRight plan (i ∷ code) = IsRight plan i × AreRight plan code

abbrev pub AreBehind : ℕ → List Instruction → Type 0
AreBehind low [] = Unit {0}
AreBehind low (i ∷ code) = IsBehind low i × AreBehind low code

abbrev pub AreOld : List Instruction → Type 0
AreOld [] = Unit {0}
AreOld (i ∷ code) = IsOld i × AreOld code

-- so many slots are enough for its level, or so many registers for its call
abbrev pub IsSized : ℕ → ℕ → Instruction → Type 0
IsSized slots registers (GetLevel k) = k < slots
IsSized slots registers (Call c) = c.arguments.registers ≤ registers
IsSized slots registers (Execute c) = c.arguments.registers ≤ registers
IsSized slots registers i = Unit {0}

abbrev pub AreSized : ℕ → ℕ → List Instruction → Type 0
AreSized slots registers [] = Unit {0}
AreSized slots registers (i ∷ code) = IsSized slots registers i × AreSized slots registers code
