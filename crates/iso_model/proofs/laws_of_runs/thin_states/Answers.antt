use Rattle.iso_model.proofs.Search.RunLaws.ThinRuns.{thin_run}
use Rattle.iso_model.proofs.laws_of_runs.thin_states.Goals as goal

pub returns : goal.returns
returns c = thin_run
