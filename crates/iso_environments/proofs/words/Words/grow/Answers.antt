use Rattle.std.proofs.Common.{ap, arith}
use Rattle.iso_environments.specs.Stacked.{Stacked}
use Rattle.iso_environments.proofs.StackLemmas.{more_front}
use Rattle.iso_environments.proofs.words.Words.grow.Goals as goal

pub returns-clause-adds : goal.returns-clause-adds
returns-clause-adds g c =
    let n = c.self.inside.count in
    let sum = c.in-Some.ensures.1 in
    more_front n c.in-Some.count c.self.inside.file.items c.args.self.now.items (omega (arith, sum))
    (ap (λ (s : Stacked _). s.items) c.self.view_is)
