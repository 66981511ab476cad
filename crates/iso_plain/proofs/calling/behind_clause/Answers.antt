use Rattle.std.proofs.Common.{arith}
use Rattle.iso_search_core.specs.Bodies.{most}
use Rattle.iso_search_core.proofs.BodyCosts.{below_words, cost_above, cost_higher}
use Rattle.iso_plain.specs.Links.{cost_at}
use Rattle.iso_plain.proofs.calling.behind_clause.Goals as goal

pub returns-in-Some-clause-cost : goal.returns-in-Some-clause-cost
returns-in-Some-clause-cost g c =
    let up = cost_above most (cost_at c.args.lists.now c.args.rest) in
    let cost = c.in-Some.ensures.cost in
    omega (arith, up, cost)

pub returns-in-None-clause-cost : goal.returns-in-None-clause-cost
returns-in-None-clause-cost g c =
    let up = cost_above most (cost_at c.args.lists.now c.args.rest) in
    let cost = c.in-None.ensures.cost in
    omega (arith, up, cost)

pub returns-in-Body-clause-cost : goal.returns-in-Body-clause-cost
returns-in-Body-clause-cost g c =
    let within = c.requires.within c.in-Body.body c.in-Body.is in
    let nodes = c.args.lists.now.nodes in
    let many = nodes.ok.0 in
    let room = nodes.ok.1 in
    let small = nodes.small in
    let few = below_words c.in-Body.body (omega (arith, within, many, room, small)) in
    cost_higher most c.in-Body.body (cost_at c.args.lists.now c.args.rest) (omega (arith, few))
