-- The view stands, if there is one.
use Rattle.std.proofs.Common.{ℕ, List, IfSome}
use Rattle.iso_db.specs.Databases.{Clause}
use Rattle.iso_db.specs.Presents.{GivesKeyed}
use Rattle.parts_rows.proofs.database.database.Given as goal

abbrev pub invariant-loop-line : goal.invariant-loop-line
invariant-loop-line l = IfSome l.view (λ v. (cs : List (Clause ℕ)) × GivesKeyed l.db v cs)
