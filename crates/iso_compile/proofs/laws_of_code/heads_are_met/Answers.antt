use Rattle.iso_compile.specs.CodeLaws.{State, left}
use Rattle.iso_compile.proofs.HeadLemmas.{clause_entered}
use Rattle.iso_compile.proofs.laws_of_code.heads_are_met.Goals as goal

pub returns : goal.returns
returns c m ts room next f ws row form same s rs good have = clause_entered State next m f ws ts room row form same left s rs good have
