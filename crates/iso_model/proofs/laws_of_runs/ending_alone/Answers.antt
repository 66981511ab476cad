use Rattle.std.proofs.Common.{◌∙◌}
use Rattle.iso_model.proofs.Search.RunLaws.Quiets.{quiet_run, ends_run}
use Rattle.iso_model.proofs.laws_of_runs.ending_alone.Goals as goal

pub returns : goal.returns
returns c = λ s at e w q h. quiet_run q ∙ ends_run at h
