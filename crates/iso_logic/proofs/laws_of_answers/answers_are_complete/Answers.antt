use Rattle.iso_logic.proofs.Completeness.{answers_complete}
use Rattle.iso_logic.proofs.laws_of_answers.answers_are_complete.Goals as goal

pub returns : goal.returns
returns c = answers_complete
