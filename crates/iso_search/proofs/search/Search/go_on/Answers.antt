use Rattle.std.proofs.Common.{ap, arith}
use Rattle.iso_search_core.specs.declared.choices.Left.TheVariants as left
use Rattle.iso_search.specs.EngineStates.{IsAhead, went_back}
use Rattle.iso_search.specs.declared.search.Search.{Search}
use Rattle.iso_search.proofs.AheadLemmas.{engine_place}
use Rattle.iso_search.proofs.BackLemmas.{tried_same}
use Rattle.iso_search.proofs.search.Search.go_on.Goals as goal

pub drop_choice-requires-clause-back : goal.drop_choice-requires-clause-back
drop_choice-requires-clause-back g c = let b = c.requires.back in (b.0, b.1, b.2, b.3, b.4, b.7)

pub coming-self-requires : goal.coming-self-requires
coming-self-requires g c =
    let b = c.requires.back in
    let ahead = c.drop_choice.ensures.ahead b.0 b.1 b.2 b.3 b.4 b.7 in
    (b.2.list, rw b.5 at ahead.chain)

pub returns-clause-goes : goal.returns-clause-goes
returns-clause-goes g c = λ ch s a below mark rest w.
    (let ahead = c.drop_choice.ensures.ahead ch s a below mark w in
    let there : IsAhead g.S.Store g.L.Lists c.drop_choice.new.self (went_back a below s) c.args.newest.rest = rw rest at ahead in
    engine_place g.S.Store g.L.Lists c.drop_choice.new.self (went_back a below s) c.args.newest.rest c.coming-self.result there (c.coming-self.ensures.behind a.list there.chain))

pub returns-clause-costs : goal.returns-clause-costs
returns-clause-costs g c =
    let b = c.requires.back in
    let all = c.drop_choice.ensures.costs b.0 b.7.newest in
    let here = tried_same (g.L.Lists.cost c.args.self.now.lists) (b.0).left left.AsIs (b.0).rest c.args.newest.rest b.6 b.5 in
    let same = ap (λ (e : Search _ _ _ _ _ _ _ _ _ _). g.L.Lists.cost e.lists c.args.newest.rest) c.drop_choice.ensures.same in
    omega (arith, all, here, c.coming-self.ensures.cost, same)
