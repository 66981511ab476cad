use Rattle.iso_model.specs.Search.RunLaws.Thinness.{no_clause}
use Rattle.iso_storage.proofs.shown_clauses.offered.Goals as goal

pub returns-in_default : goal.returns-in_default
returns-in_default g c names call cs are = let none = rw c.in_default.is at are in rw none no_clause
