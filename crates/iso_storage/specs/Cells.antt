-- How many cells goals that read or change the database take at most (own).
use Rattle.std.specs.Prelude.{ℕ}
use Rattle.iso_model.specs.Search.Settlements.{Settled, Changes}

-- what the goal counts where it changes the world; clauses that are offered count when they are tried
abbrev pub settled_cells : Settled → ℕ
settled_cells (Changes made w) = made
settled_cells settled = 0
