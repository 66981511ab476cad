use Rattle.std.proofs.Common.{ap₂, ◌∙◌}
use Rattle.iso_lib_core.specs.Groupings.{paired}
use Rattle.iso_lib_core.proofs.PairedLemmas.{paired_more}
use Rattle.iso_lib_core.proofs.groups.Group.add.Goals as goal

pub returns-clause-solutions : goal.returns-clause-solutions
returns-clause-solutions c =
    ap₂ paired c.in_ok-push.ensures.items c.in_ok-push-2.ensures.items ∙ paired_more c.args.self.now.witnesses.items c.args.self.now.items.items c.args.witness c.args.item c.requires
