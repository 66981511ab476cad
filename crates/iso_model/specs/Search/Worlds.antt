-- What outlives a run (ISO/IEC 13211-1:1995, 7.5, 6.3.4.4, 7.11).
use Rattle.std.specs.Prelude.{ℕ, List}
use Rattle.iso_ops.specs.Operators.{Operator}
use Rattle.iso_ops.specs.InitialOperators.{initial_entries}
use Rattle.iso_ops.specs.declared.settings.Flags.{Flags}
use Rattle.iso_ops.specs.Settings.{initial_flags}
use Rattle.iso_model.specs.Search.Databases.{Database, no_clauses}

-- The database, the operators and the flags; and how many runs were started, by which equal runs are told apart.
pub record World : Type 0 where
  pub database : Database
  pub operators : List Operator
  pub flags : Flags
  pub runs : ℕ

-- the world before a text is consulted
abbrev pub first_world : World
first_world = record { database = no_clauses; operators = initial_entries; flags = initial_flags; runs = 0 }
