use Rattle.std.proofs.Common.{arith, ap}
use Rattle.iso_search_core.specs.Bodies.{body_cost, most}
use Rattle.iso_search_core.specs.Keeping.{ending}
use Rattle.iso_program.proofs.ResultLemmas.{behind_error}
use Rattle.std.proofs.lemmas.Result.{on_ok_weaker}
use Rattle.iso_search.proofs.AheadLemmas.{ahead_grown, remains_ahead}
use Rattle.iso_search.proofs.Moves.Body.{grown_cost}
use Rattle.iso_search.proofs.StoppedLemmas.{keeps_lists}
use Rattle.iso_search.proofs.search.Search.run_before.Goals as goal

pub place_end-requires : goal.place_end-requires
place_end-requires g c = (g.S.Store.present c.args.self.now.store, c.requires.0.list, c.requires.4, c.requires.2.chain)

pub returns-in_err-behind-clause-kept : goal.returns-in_err-behind-clause-kept
returns-in_err-behind-clause-kept g c = λ s h.
    (let e = c.args.self.now in
    behind_error c.from_residual.result (let all = remains_ahead g.S.Store g.L.Lists e s c.args.rest h in (keeps_lists g.S.Store g.L.Lists e c.place_end.new.self s.world s.stack all.0 c.in_err-behind.ensures.keeps, all.1)))

pub run_here-requires : goal.run_here-requires
run_here-requires g c =
    let e = c.args.self.now in
    let p = g.S.Store.present e.store in
    let s = c.requires.0 in
    let chain = c.in_ok-behind.ensures.placed p s.list c.requires.4 c.requires.2.chain in (
      record s { list = ending p c.args.end s.list },
      c.requires.1,
      ahead_grown g.S.Store g.L.Lists e s c.args.rest c.in_ok-behind.behind c.place_end.new.self (ending p c.args.end s.list) c.requires.2 c.in_ok-behind.ensures.keeps chain c.in_ok-behind.ensures.pending,
      c.in_ok-behind.ensures.bodies p c.args.body c.requires.1 c.requires.3,
    )

pub returns-clause-runs : goal.returns-clause-runs
returns-clause-runs g c = λ s b h body.
    (let e = c.args.self.now in
    let p = g.S.Store.present e.store in
    let chain = c.in_ok-behind.ensures.placed p s.list c.requires.4 h.chain in
    c.run_here.ensures.runs (record s { list = ending p c.args.end s.list }) b
    (ahead_grown g.S.Store g.L.Lists e s c.args.rest c.in_ok-behind.behind c.place_end.new.self (ending p c.args.end s.list) h c.in_ok-behind.ensures.keeps chain c.in_ok-behind.ensures.pending) (c.in_ok-behind.ensures.bodies p c.args.body b body))

pub returns-clause-kept : goal.returns-clause-kept
returns-clause-kept g c = λ s h.
    (let e = c.args.self.now in
    let p = g.S.Store.present e.store in
    let chain = c.in_ok-behind.ensures.placed p s.list c.requires.4 h.chain in
    c.run_here.ensures.kept (record s { list = ending p c.args.end s.list }) (ahead_grown g.S.Store g.L.Lists e s c.args.rest c.in_ok-behind.behind c.place_end.new.self (ending p c.args.end s.list) h c.in_ok-behind.ensures.keeps chain c.in_ok-behind.ensures.pending))

pub returns-clause-costs : goal.returns-clause-costs
returns-clause-costs g c =
    let same = grown_cost g.S.Store g.L.Lists c.args.self.now c.requires.0 c.args.rest c.place_end.new.self c.requires.2 c.in_ok-behind.ensures.keeps in
    let less = ap (body_cost most) c.in_ok-behind.ensures.cost in
    on_ok_weaker c.run_here.result (λ costs. omega (arith, same, less, costs)) c.run_here.ensures.costs
