-- How the numbers of clauses are stored: what most lists have takes no memory beside the list.
use Rattle.std.specs.Prelude.{[], ◌∷◌}
use Rattle.iso_clauses.specs.Blocks.{Ids}
use Rattle.iso_clauses.specs.declared.numbers.Numbers.{Numbers}
use Rattle.iso_clauses.specs.declared.numbers.Numbers.TheVariants.{One, End, Both}

-- the numbers that are stored so
abbrev pub ids_in : Numbers → Ids
ids_in (One id alloc) = record { front = []; back = id ∷ [] }
ids_in (End back) = record { front = []; back = back.items }
ids_in (Both sides) = record { front = sides.value.front.items; back = sides.value.back.items }
