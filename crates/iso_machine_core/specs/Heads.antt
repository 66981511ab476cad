-- What meeting the head of a clause comes to, by the table of instructions.
use Rattle.std.specs.Prelude.{◌≡◌, ◌++◌, ℕ, zero, List, ◌∷◌, drop, map, take, Bool, Option, Some, None, Result, Ok}
use Rattle.std.specs.List.{slice_get}
use Rattle.iso_store_core.specs.Presents.{Present}
use Rattle.iso_compile.specs.Table.{run}
use Rattle.iso_compile.specs.Heads.{head_run}
use Rattle.iso_compile.specs.CodeLaws.{State, left}
use Rattle.iso_code.specs.declared.operands.Block.{Block}
use Rattle.iso_code.specs.declared.operands.Get.{Get}
use Rattle.iso_code.specs.declared.operands.Register.{Register}
use Rattle.iso_code.specs.declared.operands.Register.TheVariants.{Argument, Compound}
use Rattle.iso_code.specs.Loaded.{block_at, get_at, all_operands, operand_got, AreMarked, met_behind, AreNextGroups}
use Rattle.iso_code.specs.Standing.{Files, Setting, Ready, Ends, Steps}

-- Before blocks are met: the store and the lists stand for this state of the table, and the marks are right.
pub record BeforeBlocks {W : Type 0} (bs : List Block) (first : ℕ) (p : Present W) (f : Files W) (t : Setting) (met : ℕ → Bool) (state : State) : Type 0 where
  pub ready : Ready p f t met state
  pub numbers : t.first ≡ first
  pub marked : AreMarked met (all_operands bs)
  pub nexts : AreNextGroups met bs

-- The first of the blocks was met, and the table goes on behind so many of the others, from a state for which these
-- stand.
pub record PassesTo {W : Type 0} (names : List (List ℕ)) (b : Block) (bs : List Block) (p q : Present W) (f : Files W) (t : Setting) (met : ℕ → Bool) (state : State) (passed : ℕ) : Type 0 where
  pub after : State
  pub comes : run t.first (map (block_at names t.low) (b ∷ bs)) zero state.subst state.registers left ≡ run t.first (map (block_at names t.low) (drop passed bs)) zero after.subst after.registers left
  pub ready : Ready q f t (met_behind met (all_operands (b ∷ take passed bs))) after
  pub steps : Steps p state.subst q after.subst

-- What a machine answers to a block: behind how many others it goes on; none where the table comes to nothing.
abbrev pub Passes : {W : Type 0} → List (List ℕ) → Block → List Block → ℕ → Present W → Present W → Files W → Files W → Option ℕ → Type 0
Passes names b bs first p q f f' (Some passed) =
    (t : Setting) (met : ℕ → Bool) (state : State) → BeforeBlocks (b ∷ bs) first p f t met state → PassesTo names b bs p q f' t met state passed
Passes names b bs first p q f f' None =
    (t : Setting) (met : ℕ → Bool) (state : State) → BeforeBlocks (b ∷ bs) first p f t met state
    → run t.first (map (block_at names t.low) (b ∷ bs)) zero state.subst state.registers left ≡ None

-- All blocks were met as the table says.
abbrev pub MeetsBlocks : {W : Type 0} → List (List ℕ) → List Block → ℕ → Present W → Present W → Files W → Files W → Bool → Type 0
MeetsBlocks names bs first p q f f' answer =
    (t : Setting) (met : ℕ → Bool) (state : State) → BeforeBlocks bs first p f t met state
    → Ends p state.subst q f' t (met_behind met (all_operands bs)) answer (run t.first (map (block_at names t.low) bs) zero state.subst state.registers left)

-- The head was met as the table says: its gets, and then its blocks.
abbrev pub MeetsHead : {W : Type 0} → List (List ℕ) → List Get → List Block → ℕ → Present W → Present W → Files W → Files W → Bool → Type 0
MeetsHead names gets bs first p q f f' answer =
    (t : Setting) (met : ℕ → Bool) (state : State) → Ready p f t met state → t.first ≡ first → AreMarked met (map operand_got gets ++ all_operands bs)
    → AreNextGroups (met_behind met (map operand_got gets)) bs
    → Ends p state.subst q f' t (met_behind met (map operand_got gets ++ all_operands bs)) answer
    (head_run t.first (map (get_at names t.low) gets) (map (block_at names t.low) bs) state.subst state.registers left)

-- how many of the blocks behind were made at most, where so many are those of compounds in the first
abbrev pub reached : {E : Type 0} → ℕ → Result (Option ℕ) E → ℕ
reached inner (Ok (Some passed)) = passed
reached inner result = inner

-- the register has this word, among these arguments and compounds
abbrev pub HasWord : {W : Type 0} → Register → List W → List W → W → Type 0
HasWord (Argument i) arguments compounds w = slice_get arguments i ≡ Some w
HasWord (Compound k) arguments compounds w = slice_get compounds k ≡ Some w
