use Rattle.iso_logic.proofs.EngineAnswers.{concluded}
use Rattle.iso_logic.proofs.definite_runs.resume_definite.Goals as goal

pub returns-clause-concludes : goal.returns-clause-concludes
returns-clause-concludes g c = λ goal budget w answers definite query behind.
    concluded goal budget w answers definite query behind.state behind.answered _ _ _ (c.resume.ensures.pauses behind.state behind.stands c.requires.awake)
