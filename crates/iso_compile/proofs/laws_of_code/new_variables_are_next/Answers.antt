use Rattle.iso_compile.proofs.NextLemmas.{head_next}
use Rattle.iso_compile.proofs.laws_of_code.new_variables_are_next.Goals as goal

pub returns : goal.returns
returns c met m j ts form numbered = head_next met m j ts form numbered
