-- What putting the arguments of a goal comes to, by the table of instructions.
use Rattle.std.specs.Prelude.{◌≡◌, ◌+◌, ◌++◌, ℕ, List, length, map, Bool, true, Some, pos}
use Rattle.std.specs.List.{All, slice_get}
use Rattle.iso_model.specs.Terms.Trees.{Variable, Integer, row}
use Rattle.iso_model.specs.Terms.Substitutions.{Subst, apply}
use Rattle.iso_store_core.specs.Presents.{Present, Holds}
use Rattle.iso_compile.specs.Table.{part_row, filled}
use Rattle.iso_code.specs.declared.operands.Arguments.{Arguments}
use Rattle.iso_code.specs.Loaded.{IsMet, part_at, block_at, all_operands}
use Rattle.iso_code.specs.Standing.{IsFor}

-- The words are for the arguments of the goal, as the table says, where the environment's words are for the variables
-- that were met. (The table's registers hold an integer each before the blocks are made, since none is read before it
-- is made.)
pub record Puts {W : Type 0} (names : List (List ℕ)) (code : Arguments) (p q : Present W) (environment words : List W) : Type 0 where
  pub many : length words ≡ length code.operands.items
  pub hold : All (Holds q) words
  pub are : (own by : Subst) (next low : ℕ) (met : ℕ → Bool) → ((x : ℕ) (w : W) → met x ≡ true → slice_get environment x ≡ Some w → IsFor p own by w (Variable (next + x)))
      → All (IsMet met) (code.operands.items ++ all_operands code.blocks.items)
      → apply own (row (map q.term words)) ≡ apply by (part_row next (filled next (map (block_at names low) code.blocks.items) (λ r. Integer (pos 0))) (map (part_at names low) code.operands.items))
