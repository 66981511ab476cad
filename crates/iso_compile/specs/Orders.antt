-- The order in which the code meets variables, the cells that blocks take, and their registers.
use Rattle.std.specs.Prelude.{◌≡◌, ℕ, ℤ, ◌+◌, ◌<◌, ◌≤◌, ◌==◌, ◌⊎◌, List, [], ◌∷◌, length, take, Bool, true, false, if◌then◌else◌}
use Rattle.iso_model.specs.Terms.Trees.{Tree, Integer, Apply, More, count}
use Rattle.iso_model.specs.Terms.Integers.{is_short}
use Rattle.iso_model.specs.Terms.Variables.{occurs}
use Rattle.iso_compile.specs.Table.{Block, Part, Place, Number, Inner}

-- how many cells an integer takes beside the word that refers to it: one where no word holds it (own)
abbrev pub boxed : ℤ → ℕ
boxed z = if is_short z then 0 else 1

abbrev pub part_cells : Part → ℕ
part_cells (Number z) = boxed z
part_cells part = 0

abbrev pub parts_cells : List Part → ℕ
parts_cells [] = 0
parts_cells (part ∷ parts) = part_cells part + parts_cells parts

-- how many cells these blocks take, variables aside: one for each argument, one for the functor, and what integers take
abbrev pub block_cells : List Block → ℕ
block_cells [] = 0
block_cells (b ∷ bs) = parts_cells b.parts + (length b.parts + 1) + block_cells bs

-- how many cells a term takes, its variables and the word that refers to it aside
abbrev pub cells : Tree → ℕ
cells (Integer z) = boxed z
cells (Apply f ts) = count ts + 1 + cells ts
cells (More t ts) = cells t + cells ts
cells t = 0

-- All variables of numbers below j are below k or in the term.
abbrev pub AllBetween : ℕ → ℕ → Tree → Type 0
AllBetween k j t = (x : ℕ) → x < j → (x < k) ⊎ (occurs x t ≡ true)

-- the variables that were met behind a part
abbrev pub with_part : (ℕ → Bool) → Part → ℕ → Bool
with_part met (Place x) k = if k == x then true else met k
with_part met part k = met k

abbrev pub with_parts : (ℕ → Bool) → List Part → ℕ → Bool
with_parts met [] = met
with_parts met (part ∷ parts) = with_parts (with_part met part) parts

-- and behind blocks
abbrev pub with_blocks : (ℕ → Bool) → List Block → ℕ → Bool
with_blocks met [] = met
with_blocks met (b ∷ bs) = with_blocks (with_parts met b.parts) bs

-- What this block or one that it has meets for the first time is older than all that isn't met behind them.
abbrev pub IsNextGroup : (ℕ → Bool) → Block → List Block → Type 0
IsNextGroup met b bs = (x y : ℕ) → met x ≡ false → with_blocks met (b ∷ take b.inner bs) x ≡ true → with_blocks met (b ∷ take b.inner bs) y ≡ false → x ≤ y

-- So it is with each of these blocks and those that it has.
abbrev pub GroupsAreNext : (ℕ → Bool) → List Block → Type 0
GroupsAreNext met [] = Unit {0}
GroupsAreNext met (b ∷ bs) = IsNextGroup met b bs × GroupsAreNext (with_parts met b.parts) bs

-- the registers of inner compounds are among those from low on that are below high
abbrev pub PartsWithin : ℕ → ℕ → List Part → Type 0
PartsWithin low high [] = Unit {0}
PartsWithin low high (Inner r ∷ parts) = (low ≤ r) × (r < high) × PartsWithin low high parts
PartsWithin low high (part ∷ parts) = PartsWithin low high parts

-- The same of blocks, and all their registers are below high.
abbrev pub BlocksWithin : ℕ → ℕ → List Block → Type 0
BlocksWithin low high [] = Unit {0}
BlocksWithin low high (b ∷ bs) = (b.register < high) × PartsWithin low high b.parts × BlocksWithin low high bs
