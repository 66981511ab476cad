use Rattle.iso_compile.proofs.ControlLemmas.{cells_are_counted}
use Rattle.iso_compile.proofs.laws_of_code.cells_are_counted.Goals as goal

pub returns : goal.returns
returns c = cells_are_counted
