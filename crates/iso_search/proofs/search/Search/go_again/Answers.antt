use Rattle.std.proofs.Common.{◌≡◌, ◌-◌, ◌+◌, arith, refl}
use Rattle.iso_search_core.specs.declared.choices.Left.TheVariants as left
use Rattle.iso_search.proofs.BackLemmas.{chain_left, repeated, newest_costs, tried_same}
use Rattle.iso_search.proofs.RunLemmas.{one_less}
use Rattle.iso_search.proofs.search.Search.go_again.Goals as goal

pub coming-self-requires : goal.coming-self-requires
coming-self-requires g c =
    let b = c.requires.back in
    (b.2.list, rw b.4 at (chain_left g.S.Store g.L.Lists c.args.self.now b.0 b.1 b.2 b.3 b.6))

pub returns-clause-goes : goal.returns-clause-goes
returns-clause-goes g c = λ ch s a below rest tries w.
    (let e = c.args.self.now in
    let one = one_less e.steps c.requires.steps in
    let more : e.steps - 1 + 1 ≡ e.steps = omega (arith, one) in
    let all = g.met.L.Lists.all e.lists in
    let chain = rw rest at (chain_left g.S.Store g.L.Lists e ch s a below w) in
    repeated g.S.Store g.L.Lists e ch s a below w c.args.rest c.coming-self.result (e.steps - 1) c.requires.some rest tries more w.within (λ k stood. rw w.all_kept (g.met.L.Lists.top e.lists k stood)) (rw rest (c.coming-self.ensures.behind a.list chain)))

pub returns-clause-costs : goal.returns-clause-costs
returns-clause-costs g c =
    let e = c.args.self.now in
    let b = c.requires.back in
    let all = newest_costs g.L.Lists e b.0 _ c.requires.some b.6.newest refl in
    let here = tried_same (g.L.Lists.cost e.lists) (b.0).left left.Again (b.0).rest c.args.rest b.5 b.4 in
    omega (arith, all, here, c.coming-self.ensures.cost)
