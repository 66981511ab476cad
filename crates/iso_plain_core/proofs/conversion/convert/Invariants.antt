-- What is left to do makes of the whole what the goal is converted to; words and nodes came, and no binding changed.
use Rattle.std.proofs.Common.{◌≡◌, ◌+◌}
use Rattle.iso_model.specs.Search.Bodies.{converted}
use Rattle.iso_store_core.specs.Presents.{meaning, KeepsMarks}
use Rattle.iso_search_core.specs.Cells.{conversion_cells}
use Rattle.iso_plain_core.specs.Cells.{tasks_cells, next_cells}
use Rattle.iso_plain_core.specs.Entering.{Adds}
use Rattle.iso_search_core.specs.Words.{Extends}
use Rattle.iso_plain_core.specs.Conversions.{Works, tasks_load, next_load}
use Rattle.iso_search_core.proofs.CellLemmas.{TakesWithin}
use Rattle.iso_plain_core.proofs.conversion.convert.Given as goal

abbrev pub invariant-reading : goal.invariant-reading
invariant-reading g l =
    Works (g.S.Store.present l.store) l.nodes.items l.tasks.items l.next (converted (meaning (g.S.Store.present l.fn.store) l.fn.goal))
    × Extends (g.S.Store.present l.fn.store) (g.S.Store.present l.store) 0
    × Adds l.fn.nodes.items l.nodes.items
    × (g.S.Store.names l.store ≡ g.S.Store.names l.fn.store)
    × KeepsMarks (g.S.Store.stands l.fn.store) (g.S.Store.stands l.store)
    × TakesWithin g.S.Store l.fn.store l.store (next_cells (g.S.Store.present l.store) l.next + tasks_cells (g.S.Store.present l.store) l.tasks.items) (conversion_cells (meaning (g.S.Store.present l.fn.store) l.fn.goal))

abbrev pub decreases-reading : goal.decreases-reading
decreases-reading g l = next_load (g.S.Store.present l.store) l.next + tasks_load (g.S.Store.present l.store) l.tasks.items
