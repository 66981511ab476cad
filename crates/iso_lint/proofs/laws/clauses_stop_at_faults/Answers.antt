use Rattle.iso_lint.proofs.EmptyLemmas.{stop_at_faults}
use Rattle.iso_lint.proofs.laws.clauses_stop_at_faults.Goals as goal

pub returns : goal.returns
returns c = stop_at_faults
