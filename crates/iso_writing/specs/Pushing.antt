-- Arguments that were pushed, and the words that they need.
use Rattle.std.specs.Prelude.{◌≡◌, ◌+◌, ◌++◌, ℕ, List, [], ◌∷◌, length, map, true, false, Some}
use Rattle.std.specs.List.{slice_get}
use Rattle.iso_model.specs.Terms.Trees.{Tree, row}
use Rattle.iso_model.specs.Terms.Substitutions.{Subst, apply}
use Rattle.iso_model.specs.Terms.Variables.{occurs}
use Rattle.iso_store_core.specs.Presents.{Present, meaning}
use Rattle.iso_compile.specs.Orders.{parts_cells}
use Rattle.iso_code.specs.Loaded.{part_at}
use Rattle.iso_code.specs.declared.operands.Block.{Block}
use Rattle.iso_code.specs.declared.operands.Operand.{Operand}
use Rattle.iso_code.specs.declared.operands.Operand.TheVariants.{New, Old, Integer, Atom, Inner}

-- The terms that were pushed last are, under the one substitution, this row of the table under the other.
pub record ArePushed {S : Type 0} (pushed : S → List Tree → Type 0) (store : S) (own by : Subst) (ts : Tree) (many : ℕ) : Type 0 where
  pub terms : List Tree
  pub are : pushed store terms
  pub many_are : length terms ≡ many
  pub same : apply own (row terms) ≡ apply by ts

-- One more was pushed, which is this one of the table.
pub record PushesOne {S : Type 0} (pushed : S → List Tree → Type 0) (old new : S) (own by : Subst) (a : Tree) : Type 0 where
  pub term : Tree
  pub comes : (ts : List Tree) → pushed old ts → pushed new (ts ++ term ∷ [])
  pub same : apply own term ≡ apply by a

-- The word of a variable that the operand is stands, and so does that of its compound.
abbrev pub IsHeld : {W : Type 0} → Present W → List W → List W → Operand → Type 0
IsHeld {W} p environment compounds (New x) = (w : W) → slice_get environment x ≡ Some w → p.holds w ≡ true
IsHeld {W} p environment compounds (Old x) = (w : W) → slice_get environment x ≡ Some w → p.holds w ≡ true
IsHeld {W} p environment compounds (Integer z) = Unit {0}
IsHeld {W} p environment compounds (Atom a) = Unit {0}
IsHeld {W} p environment compounds (Inner k) = (w : W) → slice_get compounds k ≡ Some w → p.holds w ≡ true

-- A variable that has a word, or a compound, is one that this variable doesn't occur in.
abbrev pub IsApart : {W : Type 0} → Present W → ℕ → List W → List W → Operand → Type 0
IsApart {W} p n environment compounds (New x) = Unit {0}
IsApart {W} p n environment compounds (Old x) = (w : W) → slice_get environment x ≡ Some w → occurs n (meaning p w) ≡ false
IsApart {W} p n environment compounds (Integer z) = Unit {0}
IsApart {W} p n environment compounds (Atom a) = Unit {0}
IsApart {W} p n environment compounds (Inner k) = (w : W) → slice_get compounds k ≡ Some w → occurs n (meaning p w) ≡ false

-- how many of the operands are variables that are met for the first time
abbrev pub news : List Operand → ℕ
news [] = 0
news (New x ∷ operands) = 1 + news operands
news (operand ∷ operands) = news operands

-- how many cells a block takes, its new variables aside; and how many blocks take
abbrev pub cells_of_block : Block → ℕ
cells_of_block b = parts_cells (map (part_at [] 0) b.operands.items) + (length b.operands.items + 1)

abbrev pub cells_of_blocks : List Block → ℕ
cells_of_blocks [] = 0
cells_of_blocks (b ∷ bs) = cells_of_block b + cells_of_blocks bs
