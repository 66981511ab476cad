use Rattle.std.proofs.Common.{◌∙◌}
use Rattle.iso_model.proofs.Search.RunLaws.Quiets.{quiet_run, gives_run}
use Rattle.iso_model.proofs.laws_of_runs.first_event.Goals as goal

pub returns : goal.returns
returns c = λ s at t e q h. quiet_run q ∙ gives_run at h
