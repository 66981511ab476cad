use Rattle.iso_plain.specs.LinkMembers.{member_before}
use Rattle.iso_plain.proofs.LinkLemmas.{adds_keeps, adds_same}
use Rattle.iso_plain.proofs.members.LinkedMembers.push_member.Goals as goal

pub returns-clause-placed : goal.returns-clause-placed
returns-clause-placed g c =
    λ p m ms member list. c.push_member.ensures.placed p m ms (member_before c.args.behind member) list

pub returns-clause-keeps : goal.returns-clause-keeps
returns-clause-keeps g c =
    let came = c.push_member.ensures in
    adds_keeps c.args.self.now c.push_member.new.self (adds_same came.nodes) came.members
