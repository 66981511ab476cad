use Rattle.std.proofs.Common.{ap, arith}
use Rattle.iso_search_core.specs.declared.choices.Left.{Left}
use Rattle.iso_search_core.specs.Costs.{tried_cost}
use Rattle.iso_search.specs.EngineStates.{went_back}
use Rattle.iso_search_core.proofs.BodyCosts.{left_step}
use Rattle.iso_search.proofs.EndLemmas.{failing_ahead}
use Rattle.iso_search.proofs.search.Search.pass_catch.Goals as goal

pub drop_choice-requires-clause-back : goal.drop_choice-requires-clause-back
drop_choice-requires-clause-back g c = let b = c.requires.back in (b.0, b.1, b.2, b.3, b.4, b.6)

pub returns-clause-fails : goal.returns-clause-fails
returns-clause-fails g c = λ ch s a below mark w. failing_ahead g.S.Store g.L.Lists c.drop_choice.new.self (went_back a below s) ch.rest (c.drop_choice.ensures.ahead ch s a below mark w)

pub returns-clause-costs : goal.returns-clause-costs
returns-clause-costs g c =
    let b = c.requires.back in
    let all = c.drop_choice.ensures.costs b.0 b.6.newest in
    let here = ap (λ (x : Left _ _). tried_cost x (g.L.Lists.cost c.args.self.now.lists (b.0).rest)) b.5.1 in
    let step = left_step 0 (g.L.Lists.cost c.args.self.now.lists (b.0).rest) in
    omega (arith, all, here, step)
