use Rattle.iso_search.proofs.MovedLemmas.{moved_over}
use Rattle.iso_machine.specs.Engines.{framed}
use Rattle.iso_machine.proofs.control.run_instruction.Goals as goal

pub returns-in-Cut : goal.returns-in-Cut
returns-in-Cut g c =
    moved_over g.S.Store (framed g.S.Cells.atom_word) {Fact = λ s. ⊥} (λ s none. absurd none) c.cut_back.ensures.moved
