use Rattle.iso_model.proofs.Search.RunLaws.SameRuns.{same_run}
use Rattle.iso_model.proofs.laws_of_runs.same_states.Goals as goal

pub returns : goal.returns
returns c = same_run
