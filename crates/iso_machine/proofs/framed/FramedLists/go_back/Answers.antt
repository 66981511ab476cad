use Rattle.iso_machine.proofs.FrameLemmas.{taken_keeps}
use Rattle.iso_machine.proofs.framed.FramedLists.go_back.Goals as goal

pub returns-clause-keeps : goal.returns-clause-keeps
returns-clause-keeps g c =
    taken_keeps g.S.Cells.atom_word c.args.self.now c.cut_down.new.self c.args.kept c.requires c.cut_down.ensures.nodes
    c.cut_down.ensures.frames c.cut_down.ensures.words
