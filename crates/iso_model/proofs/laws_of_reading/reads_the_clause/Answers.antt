use Rattle.iso_model.proofs.Syntax.ClauseLaws.{clause_complete, clause_given}
use Rattle.iso_model.proofs.laws_of_reading.reads_the_clause.Goals as goal

pub returns : goal.returns
returns c = λ table flags good ts a. (clause_given table flags ts a, clause_complete table flags good ts a)
