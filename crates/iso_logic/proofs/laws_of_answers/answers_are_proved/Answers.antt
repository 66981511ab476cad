use Rattle.iso_logic.proofs.Runs.{answers_proved}
use Rattle.iso_logic.proofs.laws_of_answers.answers_are_proved.Goals as goal

pub returns : goal.returns
returns c = answers_proved
