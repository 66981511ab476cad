use Rattle.iso_compile.proofs.CellLemmas.{blocks_take_cells}
use Rattle.iso_compile.proofs.laws_of_code.blocks_take_cells.Goals as goal

pub returns : goal.returns
returns c = blocks_take_cells
