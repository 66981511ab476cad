-- The numbers of a list's clauses, as they are kept: in blocks, which only grow.
use Rattle.std.specs.Prelude.{ℕ, Bool, filter, List, [], ◌∷◌, ◌++◌, take, reverse, slice_index_or}
use Rattle.iso_clauses.specs.declared.blocks.Side.{Side}
use Rattle.iso_clauses.specs.declared.blocks.Side.TheVariants.{First, Last}

-- Numbers of clauses: those that were added at the front, the last one outermost, and those that were added at the end.
pub record Ids : Type 0 where
  pub front : List ℕ
  pub back : List ℕ

-- What is kept of a list, of a procedure or of a part of one: the blocks that only views made before need, its block,
-- and how many of the block's first numbers new views pass over.
pub record Kept : Type 0 where
  pub older : List Ids
  pub current : Ids
  pub first : ℕ

-- the numbers in order, of the front only so many that were there first
abbrev pub ids_from : Ids → ℕ → List ℕ
ids_from b outer = reverse (take outer b.front) ++ b.back

-- the numbers in order
abbrev pub ids : Ids → List ℕ
ids b = reverse b.front ++ b.back

-- the block of this number: its own is the last one
abbrev pub block_of : Kept → ℕ → Ids
block_of e block = slice_index_or e.older block e.current

-- no numbers
abbrev pub no_ids : Ids
no_ids = record { front = []; back = [] }

-- what is kept of a list without clauses
abbrev pub nothing_kept : Kept
nothing_kept = record { older = []; current = no_ids; first = 0 }

-- the numbers with one more
abbrev pub grown : Side → ℕ → Ids → Ids
grown First id b = record b { front = b.front ++ id ∷ [] }
grown Last id b = record b { back = b.back ++ id ∷ [] }

-- how many of the first numbers new views pass over then
abbrev pub passed : Side → ℕ → ℕ
passed First first = 0
passed Last first = first

-- a list with the number of one clause more
abbrev pub pushed : Side → ℕ → Kept → Kept
pushed side id e = record e { current = grown side id e.current; first = passed side e.first }

-- the numbers that pass a test
abbrev pub passing : (ℕ → Bool) → Ids → Ids
passing test b = record { front = filter test b.front; back = filter test b.back }

-- what is kept of a list without its older blocks
abbrev pub forgotten : Kept → Kept
forgotten e = record e { older = [] }
