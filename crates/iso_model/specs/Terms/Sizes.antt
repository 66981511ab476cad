-- How large a term is (own).
use Rattle.std.specs.Prelude.{ℕ, ℤ, ◌+◌, if◌then◌else◌}
use Rattle.iso_model.specs.Terms.Integers.{is_short}
use Rattle.iso_model.specs.Terms.Trees.{Tree, Variable, Integer, Name, Apply, End, More}

-- an integer of 64 bits has size 1, others 4
abbrev pub integer_size : ℤ → ℕ
integer_size z = if is_short z then 1 else 4

-- A variable or an atom has size 1, an integer the size above, a compound 2 plus the sizes of its arguments; a list of
-- terms the sum of theirs.
abbrev pub size : Tree → ℕ
size (Variable n) = 1
size (Integer z) = integer_size z
size (Name a) = 1
size (Apply f ts) = 2 + size ts
size End = 0
size (More t ts) = size t + size ts

-- The same, where a compound counts one less if it stands first, and so does each one that stands first in such a
-- compound.
abbrev pub light_size : Tree → ℕ
light_size (Variable n) = 1
light_size (Integer z) = integer_size z
light_size (Name a) = 1
light_size (Apply f ts) = 1 + light_size ts
light_size End = 0
light_size (More t ts) = light_size t + size ts
