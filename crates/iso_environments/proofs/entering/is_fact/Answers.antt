use Rattle.std.proofs.Common.{ap}
use Rattle.iso_instructions.specs.Forms.{is_fact}
use Rattle.iso_environments.proofs.EnteredLemmas.{fact_body}
use Rattle.iso_environments.proofs.entering.is_fact.Goals as goal

pub returns-in-Fact-clause-body : goal.returns-in-Fact-clause-body
returns-in-Fact-clause-body c = λ names d k is. fact_body k (ap is_fact c.in-Fact.is)
