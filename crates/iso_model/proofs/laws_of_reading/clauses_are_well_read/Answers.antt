use Rattle.iso_model.proofs.Syntax.WellRead.{clause_well_read}
use Rattle.iso_model.proofs.laws_of_reading.clauses_are_well_read.Goals as goal

pub returns : goal.returns
returns c = clause_well_read
