use Rattle.iso_logic.proofs.EngineAnswers.{begun}
use Rattle.iso_logic.proofs.definite_runs.start_definite.Goals as goal

pub returns-clause-behind : goal.returns-clause-behind
returns-clause-behind g c = λ s stands. begun _ _ s _ _ _ (c.start.ensures.starts s stands)
