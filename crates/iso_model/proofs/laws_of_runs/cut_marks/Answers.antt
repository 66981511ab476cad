use Rattle.iso_model.proofs.Search.RunLaws.MarkedSteps.{step_marked, started_marked}
use Rattle.iso_model.proofs.laws_of_runs.cut_marks.Goals as goal

pub returns : goal.returns
returns c = (started_marked, step_marked)
