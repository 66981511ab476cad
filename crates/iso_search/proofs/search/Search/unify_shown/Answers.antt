use Rattle.std.proofs.Common.{◌+◌, refl, arith}
use Rattle.std.proofs.lemmas.Result.{IfOk-weaker}
use Rattle.iso_model.specs.Search.Storages.{clause_cost}
use Rattle.iso_program.proofs.LeavingLemmas.{left_clause}
use Rattle.iso_search_core.proofs.FittingLemmas.{fits_taken}
use Rattle.iso_search.proofs.AheadLemmas.{keeps_ahead}
use Rattle.iso_search.proofs.StoppedLemmas.{keeps_store}
use Rattle.iso_search.proofs.ShowEnds.{on_error_too, unified}
use Rattle.iso_search.proofs.search.Search.unify_shown.Goals as goal

pub unify_clause-requires-clause-clause : goal.unify_clause-requires-clause-clause
unify_clause-requires-clause-clause g c =
    let w = c.requires.shows in
    let e = c.args.self.now in
    (w.3, left_clause (g.S.Store.names e.store) e.db (w.5).clauses c.clause-clause.result.now c.clause-clause.ensures)

pub unify_clause-requires-clause-room : goal.unify_clause-requires-clause-room
unify_clause-requires-clause-room g c =
    let w = c.requires.shows in
    let e = c.args.self.now in
    let is = left_clause (g.S.Store.names e.store) e.db (w.5).clauses c.clause-clause.result.now c.clause-clause.ensures in
    let space = (w.5).space in
    let next = (w.5).ahead.goes.next in
    let few = is.few in
    let count = is.variables in
    omega (arith, space, next, few, count)

pub returns-clause-unified : goal.returns-clause-unified
returns-clause-unified g c = λ place s k x xs t.
    (let e = c.args.self.now in
    let p = g.S.Store.present e.store in
    let q = g.S.Store.present c.unify_clause.new.store in
    let chain = t.ahead.chain in
    let is = left_clause (g.S.Store.names e.store) e.db t.clauses c.clause-clause.result.now c.clause-clause.ensures in
    IfOk-weaker c.unify_clause.result _ _ (unified g.S.Store g.L.Lists e c.args.shown place s k x xs t c.unify_clause.new.store c.unify_clause.ensures.rest.marks c.unify_clause.ensures.rest.names (c.unify_clause.ensures.cells x is)
    (λ words. g.met.L.Lists.words p q e.lists (g.L.Lists.whole e.lists) place s.list words chain)
    (λ u has. g.met.L.Lists.values p q u e.lists (g.L.Lists.whole e.lists) place s.list has chain) c.requires.failing is.few)
    (c.unify_clause.ensures.unifies x is))

pub returns-clause-kept : goal.returns-clause-kept
returns-clause-kept g c = λ place s k x xs t.
    (let e = c.args.self.now in
    let is = left_clause (g.S.Store.names e.store) e.db t.clauses c.clause-clause.result.now c.clause-clause.ensures in
    on_error_too c.unify_clause.result (
      keeps_store g.S.Store g.L.Lists e c.unify_clause.new.store s.world s.stack (keeps_ahead g.S.Store g.L.Lists e s place t.ahead) c.unify_clause.ensures.rest.marks c.unify_clause.ensures.rest.names,
      fits_taken g.S.Store s (record s { built = s.built + clause_cost x }) (c.unify_clause.ensures.cells x is) (omega arith) refl (omega arith) t.ahead.fits,
    ))

pub returns-clause-stays : goal.returns-clause-stays
returns-clause-stays g c =
    let rest = c.unify_clause.ensures.rest in
    record { limit = refl; vocabulary = refl; names_kept = rest.names; base = λ p h. rest.marks c.args.self.now.base p h; within = λ h. h }
