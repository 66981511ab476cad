use Rattle.iso_model.proofs.Search.RunLaws.Quiets.{quiet_run}
use Rattle.iso_model.proofs.laws_of_runs.quiet_steps.Goals as goal

pub returns : goal.returns
returns c = λ s t q. quiet_run q
