use Rattle.std.proofs.Common.{refl}
use Rattle.iso_logic.proofs.WorkedPrograms.{append_definite, append_proves, append_proves_not, append_leaves, text_of_loop, loop_queries}
use Rattle.iso_logic.proofs.worked_programs.worked_programs.Goals as goal

pub returns-clause-definite : goal.returns-clause-definite
returns-clause-definite c = refl

pub returns-clause-others : goal.returns-clause-others
returns-clause-others c = (refl, refl, refl, refl, refl, refl)

pub returns-clause-append : goal.returns-clause-append
returns-clause-append c = append_definite

pub returns-clause-proves : goal.returns-clause-proves
returns-clause-proves c = append_proves

pub returns-clause-proves_not : goal.returns-clause-proves_not
returns-clause-proves_not c = append_proves_not

pub returns-clause-leaves : goal.returns-clause-leaves
returns-clause-leaves c = append_leaves

pub returns-clause-text : goal.returns-clause-text
returns-clause-text c = text_of_loop

pub returns-clause-queries : goal.returns-clause-queries
returns-clause-queries c = loop_queries
