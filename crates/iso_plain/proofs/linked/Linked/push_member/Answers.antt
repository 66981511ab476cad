use Rattle.std.proofs.Common.{refl}
use Rattle.iso_plain.specs.declared.linked.Linked.{Linked}
use Rattle.iso_plain.proofs.LinkLemmas.{pushed_list, pushed_cost}
use Rattle.iso_plain.proofs.linked.Linked.push_member.Goals as goal

pub returns-clause-placed : goal.returns-clause-placed
returns-clause-placed g c =
    λ p m ms member list.
    let new : Linked g.row.S.Denot g.row.S-Word.Denot g.row.S-Mark.Denot = record { nodes = c.args.self.now.nodes; members = c.push_link.new.members } in
    pushed_list c.args.self.now new (record { todo = c.args.todo; height = c.args.height; next = c.args.behind }) c.in_ok-place.place refl c.in_ok-place.ensures.pushed c.in_ok-place.ensures.place member list

pub returns-clause-cost : goal.returns-clause-cost
returns-clause-cost g c =
    let new : Linked g.row.S.Denot g.row.S-Word.Denot g.row.S-Mark.Denot = record { nodes = c.args.self.now.nodes; members = c.push_link.new.members } in
    pushed_cost c.args.self.now new (record { todo = c.args.todo; height = c.args.height; next = c.args.behind }) c.in_ok-place.place c.in_ok-place.ensures.pushed c.in_ok-place.ensures.place
