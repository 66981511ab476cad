use Rattle.iso_program.proofs.LeavingLemmas.{some_left}
use Rattle.iso_program.proofs.left_clauses.has_left.Goals as goal

pub returns : goal.returns
returns g c names ks cs gives are = some_left names ks cs c.has_more.result are (c.has_more.ensures ks gives)
