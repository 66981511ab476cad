use Rattle.std.proofs.Common.{refl}
use Rattle.iso_search.proofs.retries.retry_of.Goals as goal

pub returns-in-Clauses-clause-tries : goal.returns-in-Clauses-clause-tries
returns-in-Clauses-clause-tries g c = (c.in-Clauses.attempt.later, c.in-Clauses.is, refl)
