use Rattle.iso_logic.proofs.OneList.{one_list}
use Rattle.iso_logic.proofs.laws_of_answers.leaves_are_one_list.Goals as goal

pub returns : goal.returns
returns c = one_list
