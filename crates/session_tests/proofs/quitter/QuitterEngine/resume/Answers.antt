use Rattle.std.proofs.Common.{refl}
use Rattle.iso_model.specs.Search.Runs.{here}
use Rattle.session_tests.proofs.Stops.{idle_ends}
use Rattle.session_tests.proofs.quitter.QuitterEngine.resume.Goals as goal

pub returns-else-self-clause-pauses : goal.returns-else-self-clause-pauses
returns-else-self-clause-pauses c = λ s stands awake.
    (record { at = s; world = s.world; quiet = here; last = idle_ends s stands.0; stands = (refl, stands.1, stands.2) }, rw c.if-self.false refl)
