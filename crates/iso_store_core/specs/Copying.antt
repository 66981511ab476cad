-- How many cells a term takes.
use Rattle.std.specs.Prelude.{ℕ, ℤ, ◌+◌, if◌then◌else◌}
use Rattle.iso_model.specs.Terms.Integers.{is_short}
use Rattle.iso_model.specs.Terms.Trees.{Tree, Variable, Integer, Name, Apply, End, More, count}

-- how many cells an integer takes beside those of an atom: one where it has more than 64 bits
abbrev pub wide_cells : ℤ → ℕ
wide_cells z = if is_short z then 0 else 1

-- how many cells all of a term but its variables takes, where an atom takes so many and a compound of n arguments takes
-- width n
abbrev pub cells_of : ℕ → (ℕ → ℕ) → Tree → ℕ
cells_of atomic width (Variable n) = 0
cells_of atomic width (Integer z) = atomic + wide_cells z
cells_of atomic width (Name a) = atomic
cells_of atomic width (Apply f ts) = width (count ts) + cells_of atomic width ts
cells_of atomic width End = 0
cells_of atomic width (More t ts) = cells_of atomic width t + cells_of atomic width ts
