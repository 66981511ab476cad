-- How much a store has, where cells are counted: within twice what a state of the search counts.
use Rattle.std.specs.Prelude.{ℕ, ◌+◌}
use Rattle.iso_model.specs.Search.Walker.{State, Alternative}
use Rattle.iso_model.specs.Search.Runs.{Reaches}
use Rattle.iso_model.specs.Search.RunLaws.Counts.{Fits, FitsAt}
use Rattle.iso_store_core.specs.Presents.{Present}
use Rattle.iso_store_core.specs.Retaining.{CountsCells}
use Rattle.iso_store_core.specs.declared.stores.Store.{Ghosts}

module _ {S W M : Type 0} (g : Ghosts S W M) where
  -- Its cells, with those that goals are still to take, and its variables fit the state.
  abbrev pub FitsState : Present W → ℕ → State → Type 0
  FitsState p pending s = CountsCells g → Fits (p.cells + pending) p.variables s

  -- so with an alternative, for a query of this size
  abbrev pub FitsLeft : ℕ → Present W → ℕ → Alternative → Type 0
  FitsLeft size p pending a = CountsCells g → FitsAt (p.cells + pending) p.variables size a

  -- Some steps without an event lead from this state to one that its cells and variables fit.
  abbrev pub FitsAhead : Present W → State → Type 0
  FitsAhead p s = CountsCells g → Reaches s (Fits p.cells p.variables)
