use Rattle.iso_logic.proofs.ProgramProofs.{programs_prove}
use Rattle.iso_logic.proofs.laws_of_programs.programs_prove_the_same.Goals as goal

pub returns : goal.returns
returns c = programs_prove
