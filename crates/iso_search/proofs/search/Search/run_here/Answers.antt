use Rattle.std.proofs.Common.{◌∷◌, arith}
use Rattle.iso_model.specs.Search.Walker.{Goal}
use Rattle.iso_program.proofs.ResultLemmas.{behind_error}
use Rattle.iso_search.proofs.AheadLemmas.{remains_ahead}
use Rattle.iso_search.proofs.Moves.Body.{engine_grown, grown_cost}
use Rattle.iso_search.proofs.StoppedLemmas.{keeps_lists}
use Rattle.iso_search.proofs.search.Search.run_here.Goals as goal

pub run-requires : goal.run-requires
run-requires g c = (g.S.Store.present c.args.self.now.store, c.requires.1, c.requires.0.list, c.requires.3, c.requires.2.chain)

pub returns-in_err-first-clause-kept : goal.returns-in_err-first-clause-kept
returns-in_err-first-clause-kept g c = λ s h.
    (let e = c.args.self.now in
    behind_error c.from_residual.result (let all = remains_ahead g.S.Store g.L.Lists e s c.args.rest h in (keeps_lists g.S.Store g.L.Lists e c.run.new.self s.world s.stack all.0 c.in_err-first.ensures.keeps, all.1)))

pub returns-clause-runs : goal.returns-clause-runs
returns-clause-runs g c = λ s b h body.
    engine_grown g.S.Store g.L.Lists c.args.self.now s c.args.rest c.run.new.self c.in_ok-first.first (Goal b c.args.mark ∷ s.list) h c.in_ok-first.ensures.keeps (c.in_ok-first.ensures.first (g.S.Store.present c.args.self.now.store) b s.list body h.chain) c.in_ok-first.ensures.pending

pub returns-clause-costs : goal.returns-clause-costs
returns-clause-costs g c =
    let same = grown_cost g.S.Store g.L.Lists c.args.self.now c.requires.0 c.args.rest c.run.new.self c.requires.2 c.in_ok-first.ensures.keeps in
    omega (arith, same, c.in_ok-first.ensures.cost)
