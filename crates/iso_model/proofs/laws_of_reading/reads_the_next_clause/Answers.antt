use Rattle.iso_model.proofs.Syntax.ClauseLaws.{next_complete, next_given}
use Rattle.iso_model.proofs.laws_of_reading.reads_the_next_clause.Goals as goal

pub returns : goal.returns
returns c = λ table flags good ts a. (next_given table flags ts a, next_complete table flags good ts a)
