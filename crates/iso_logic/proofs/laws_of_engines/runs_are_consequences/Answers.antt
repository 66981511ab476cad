use Rattle.iso_logic.proofs.EngineAnswers.{runs_consequences}
use Rattle.iso_logic.proofs.laws_of_engines.runs_are_consequences.Goals as goal

pub returns : goal.returns
returns c = runs_consequences
