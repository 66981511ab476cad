use Rattle.iso_model.proofs.Session.RunNumbers.{session_numbers}
use Rattle.iso_model.proofs.laws_of_sessions.runs_are_numbered.Goals as goal

pub returns : goal.returns
returns c = session_numbers
