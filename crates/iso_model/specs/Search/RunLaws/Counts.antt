-- How much an engine keeps, beside what is built: a bound on its cells and variables is said by it.
use Rattle.std.specs.Prelude.{◌<◌, ℕ, ◌+◌, ◌*◌}
use Rattle.iso_model.specs.Search.Walker.{State, Alternative, load}

-- So many cells, with those that goals behind are still to take, and so many variables, each of which may be bound and
-- noted, are within twice the load.
abbrev pub Fits : ℕ → ℕ → State → Type 0
Fits cells variables s = cells + variables < 2 * load s

-- so with an alternative, for a query of this size
abbrev pub FitsAt : ℕ → ℕ → ℕ → Alternative → Type 0
FitsAt cells variables query a = cells + variables < 2 * (a.built + query)
