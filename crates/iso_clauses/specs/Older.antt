-- The blocks that only views made before need, where there are any.
use Rattle.std.specs.Prelude.{List, []}
use Rattle.iso_clauses.specs.Blocks.{Ids}
use Rattle.iso_clauses.specs.declared.blocks.Older.{Older}
use Rattle.iso_clauses.specs.declared.blocks.Older.TheVariants.{None, Some}

-- the blocks that only views made before need
abbrev pub older_in : Older → List Ids
older_in (None alloc) = []
older_in (Some blocks) = blocks.value.items
