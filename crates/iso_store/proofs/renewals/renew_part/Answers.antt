use Rattle.std.proofs.Common.{◌+◌, ap}
use Rattle.iso_model.specs.Terms.Trees.{Variable}
use Rattle.iso_store_core.specs.Patterns.{part_step}
use Rattle.iso_store.specs.HeapBuilds.{numbered}
use Rattle.iso_store.proofs.InstanceLemmas.{made-leaf}
use Rattle.iso_store.proofs.renewals.renew_part.Goals as goal

pub returns-in-Variable-clause-gathers : goal.returns-in-Variable-clause-gathers
returns-in-Variable-clause-gathers g c =
    let step = part_step (g.S.Primitives.names c.args.store.now) (numbered c.args.first) in
    made-leaf c.args.words.now.items c.push.new.self.items c.in_ok-word.word c.requires.words (Variable (c.args.first + c.in-Variable.place)) (step c.args.part) c.in_ok-word.ensures.made c.in_ok-push.ensures.items (ap step c.in-Variable.is)
