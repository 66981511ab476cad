use Rattle.iso_model.specs.Search.RunLaws.{run_of_is}
use Rattle.iso_model.proofs.laws_of_runs.run_of_a_state.Goals as goal

pub returns : goal.returns
returns c = run_of_is
