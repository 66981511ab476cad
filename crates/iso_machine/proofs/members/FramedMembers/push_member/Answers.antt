use Rattle.iso_machine.proofs.FrameLemmas.{adds_keeps, adds_same, stacked_same}
use Rattle.iso_machine.proofs.members.FramedMembers.push_member.Goals as goal

pub returns-clause-keeps : goal.returns-clause-keeps
returns-clause-keeps g c =
    let came = c.push_member.ensures in
    adds_keeps g.S.Cells.atom_word c.args.self.now c.push_member.new.self (adds_same came.nodes) came.frames
    (stacked_same came.words)
