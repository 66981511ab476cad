use Rattle.iso_model.specs.Search.RunLaws.{one_run, run_of, run_of_is}
use Rattle.iso_model.proofs.laws_of_runs.one_run_each.Goals as goal

pub returns : goal.returns
returns c = λ s. (run_of s, run_of_is s, λ q h. one_run h (run_of_is s))
