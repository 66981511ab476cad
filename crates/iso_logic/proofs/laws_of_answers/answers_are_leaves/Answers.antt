use Rattle.iso_logic.proofs.Runs.{answers_leaves}
use Rattle.iso_logic.proofs.laws_of_answers.answers_are_leaves.Goals as goal

pub returns : goal.returns
returns c = answers_leaves
