use Rattle.iso_logic.proofs.ProgramProofs.{consulted_definite, nothing_definite}
use Rattle.iso_logic.proofs.laws_of_programs.programs_make_definite_databases.Goals as goal

pub returns : goal.returns
returns c = (nothing_definite, λ ts db last made terms definite old. consulted_definite made terms definite old)
