use Rattle.std.proofs.Common.{◌≤◌, ◌∙◌, length, ap, length-take-le, arith}
use Rattle.iso_environments.specs.Stacked.{Stacked}
use Rattle.iso_environments.proofs.StackLemmas.{more_front, front_grown}
use Rattle.iso_environments.proofs.words.Words.widen.Goals as goal

pub returns-clause-adds : goal.returns-clause-adds
returns-clause-adds g c =
    let n = c.self.inside.count in
    let file = c.self.inside.file.items in
    let stand = ap (λ (s : Stacked _). s.items) c.self.view_is in
    let many = ap length stand in
    let inside = c.self.invariant in
    let low = length-take-le n file inside in
    let more = c.requires.more in
    let less : n ≤ c.args.count = omega (arith, many, low, more) in
    more_front n c.args.count c.resize.new.self.items c.args.self.now.items less
    (front_grown n c.args.count file c.resize.new.self.items _ inside less c.in_ok-resize.ensures.items ∙ stand)
