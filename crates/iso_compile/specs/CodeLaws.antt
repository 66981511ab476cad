-- Laws of code.
use Rattle.std.specs.Prelude.{◌≡◌, ℕ, ◌+◌, ◌≤◌, List, map, Option, Some, Bool, codes, true, option_map}
use Rattle.iso_model.specs.Terms.Trees.{Tree, Name, Apply, End, More, count}
use Rattle.iso_model.specs.declared.terms.Term.{Term}
use Rattle.iso_model.specs.Terms.TermOf.{row_of}
use Rattle.iso_model.specs.Terms.Sizes.{size}
use Rattle.iso_model.specs.Terms.Sorts.{is_row}
use Rattle.iso_model.specs.Terms.Substitutions.{Subst, apply, compose}
use Rattle.iso_model.specs.Terms.Copies.{renamed}
use Rattle.iso_model.specs.Terms.Numbering.{next_number}
use Rattle.iso_model.specs.Terms.Unification.{unifier_of}
use Rattle.iso_compile.specs.Table.{Registers, Block, Part, part_row, filled}
use Rattle.iso_compile.specs.TermCode.{tops, parts, blocks}
use Rattle.iso_compile.specs.Heads.{Get, part_got, gets, head_blocks, head_run, HaveRow, Good, Meets}
use Rattle.iso_compile.specs.Orders.{parts_cells, block_cells, cells, AllBetween, with_parts, GroupsAreNext}

-- what the code of a head leaves
pub record State : Type 0 where
  pub subst : Subst
  pub registers : Registers

abbrev pub left : Subst → Registers → Option State
left s rs = Some (record { subst = s; registers = rs })

-- This code meets each call as the search tries a clause whose head has these arguments. The call's arguments are in
-- the registers 0, 1, ..
abbrev pub MeetsCalls : List Get → List Block → Tree → Type 0
MeetsCalls gs bs ts =
    (next : ℕ) (f : List ℕ) (ws : Tree) → is_row ws ≡ true → is_row ts ≡ true → count ws ≡ count ts → (s : Subst) (rs : Registers) → Good s rs → HaveRow rs 0 ws
    → Meets left (option_map (compose s) (unifier_of (apply s (Apply f ws)) (apply s (renamed next (Apply f ts))))) (head_run next gs bs s rs left)

-- The code of a head does so, where the registers from m on are for compounds.
abbrev pub HeadsAreMet : Type 0
HeadsAreMet = (m : ℕ) (ts : Tree) → count ts ≤ m → MeetsCalls (gets 0 ts) (head_blocks 0 m ts) ts

-- This code makes these arguments of a goal: the blocks, of which the last is made first, and then the parts.
abbrev pub MakesArguments : List Block → List Part → Tree → Type 0
MakesArguments bs ps ts = (next : ℕ) (rs : Registers) → is_row ts ≡ true → part_row next (filled next bs rs) ps ≡ renamed next ts

-- This name with the arguments that this code makes is the goal. A variable or a number is called by call/1.
abbrev pub Calls : List ℕ → List Block → List Part → Tree → Type 0
Calls name bs ps (Name a) = (name ≡ a) × MakesArguments bs ps End
Calls name bs ps (Apply f ts) = (name ≡ f) × MakesArguments bs ps ts
Calls name bs ps t = (name ≡ codes "call") × MakesArguments bs ps (More t End)

-- The code of a goal's arguments does so.
abbrev pub ArgumentsAreMade : Type 0
ArgumentsAreMade = (r m : ℕ) (ts : Tree) → r + tops ts ≤ m → MakesArguments (blocks r m ts) (parts r ts) ts

-- The parts and blocks of terms take the cells of these, as do those of the arguments of a head; and no more than the
-- terms count.
abbrev pub BlocksTakeCells : Type 0
BlocksTakeCells =
    (r m : ℕ) (ts : List Term) → (parts_cells (parts r (row_of ts)) + block_cells (blocks r m (row_of ts)) ≡ cells (row_of ts))
    × (parts_cells (map part_got (gets r (row_of ts))) + block_cells (head_blocks r m (row_of ts)) ≡ cells (row_of ts)) × (cells (row_of ts) ≤ size (row_of ts))

-- The variables of numbers below the next one behind a term are those below the next one before it, and those of the
-- term.
abbrev pub NumbersAreTaken : Type 0
NumbersAreTaken = (t : Tree) (k j : ℕ) → next_number t k ≡ Some j → AllBetween k j t

-- The variables of a head are numbered from 0 on by first occurrence. Where a compound of it is made with all that is
-- in it, the variables that are met there for the first time are older than all that are still to come, whatever was
-- met before the head.
abbrev pub NewVariablesAreNext : Type 0
NewVariablesAreNext =
    (met : ℕ → Bool) (m j : ℕ) (ts : Tree) → is_row ts ≡ true → next_number ts 0 ≡ Some j → GroupsAreNext (with_parts met (map part_got (gets 0 ts))) (head_blocks 0 m ts)
