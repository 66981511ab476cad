use Rattle.iso_plain.proofs.LinkLemmas.{taken_keeps}
use Rattle.iso_plain.proofs.linked.LinkedLists.go_back.Goals as goal

pub returns-clause-keeps : goal.returns-clause-keeps
returns-clause-keeps g c =
    taken_keeps c.args.self.now (record { nodes = c.truncate.new.self; members = c.truncate-2.new.self }) c.args.kept c.requires c.truncate.ensures.items c.truncate-2.ensures.items
