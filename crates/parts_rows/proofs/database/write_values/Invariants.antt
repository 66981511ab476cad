-- The view stands.
use Rattle.std.proofs.Common.{ℕ, List}
use Rattle.iso_db.specs.Databases.{Clause}
use Rattle.iso_db.specs.Presents.{GivesKeyed}
use Rattle.parts_rows.proofs.database.write_values.Given as goal

abbrev pub invariant-clauses : goal.invariant-clauses
invariant-clauses l = (cs : List (Clause ℕ)) × GivesKeyed l.db l.view cs
