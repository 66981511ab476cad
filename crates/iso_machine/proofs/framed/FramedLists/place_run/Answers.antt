use Rattle.iso_machine.proofs.FrameLemmas.{adds_keeps, adds_same, stacked_same}
use Rattle.iso_machine.proofs.framed.FramedLists.place_run.Goals as goal

pub returns-clause-keeps : goal.returns-clause-keeps
returns-clause-keeps g c =
    adds_keeps g.S.Cells.atom_word c.args.self.now c.push_goal.new.self c.push_goal.ensures.nodes
    (adds_same c.push_goal.ensures.frames) (stacked_same c.push_goal.ensures.words)
