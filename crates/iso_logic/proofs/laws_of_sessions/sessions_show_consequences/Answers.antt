use Rattle.iso_logic.proofs.ShownAnswers.{sessions_show}
use Rattle.iso_logic.proofs.laws_of_sessions.sessions_show_consequences.Goals as goal

pub returns : goal.returns
returns c = sessions_show
