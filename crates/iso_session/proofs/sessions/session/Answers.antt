use Rattle.iso_model.specs.Search.Runs.{ComesAbove, ComesOver}
use Rattle.iso_session_core.specs.Progress.{outcome_of}
use Rattle.iso_logic.proofs.ShownAnswers.{writes_consequences}
use Rattle.iso_session.proofs.sessions.session.Goals as goal

pub returns-in-Plain-clause-bytes : goal.returns-in-Plain-clause-bytes
returns-in-Plain-clause-bytes g c = rw c.in-Plain.is c.plain_session.ensures

pub returns-in-Plain-clause-consequences : goal.returns-in-Plain-clause-consequences
returns-in-Plain-clause-consequences g c =
    writes_consequences c.args.text.now c.args.queries.now c.args.limits.now.budget _ _ _
    (outcome_of c.plain_session.result) c.plain_session.ensures

pub returns-in-Wam-clause-bytes : goal.returns-in-Wam-clause-bytes
returns-in-Wam-clause-bytes g c = rw c.in-Wam.is c.machine_session.ensures

pub returns-in-Wam-clause-consequences : goal.returns-in-Wam-clause-consequences
returns-in-Wam-clause-consequences g c =
    writes_consequences c.args.text.now c.args.queries.now c.args.limits.now.budget _ _ _
    (outcome_of c.machine_session.result) c.machine_session.ensures
