use Rattle.iso_compile.proofs.ControlLemmas.{members_are_taken}
use Rattle.iso_compile.proofs.laws_of_code.members_are_taken.Goals as goal

pub returns : goal.returns
returns c = members_are_taken
