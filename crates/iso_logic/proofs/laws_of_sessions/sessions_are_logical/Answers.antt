use Rattle.iso_logic.proofs.Sessions.{sessions_logical}
use Rattle.iso_logic.proofs.laws_of_sessions.sessions_are_logical.Goals as goal

pub returns : goal.returns
returns c = sessions_logical
