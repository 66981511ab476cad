use Rattle.iso_model.specs.Search.Databases as databases
use Rattle.iso_model.specs.Search.Errors.{key}
use Rattle.iso_model.specs.Search.Storages.{clauses_of, retract_key}
use Rattle.iso_db.specs.Presents.{contents}
use Rattle.iso_store_core.specs.Presents.{meaning}
use Rattle.std.proofs.Common.{false, true}
use Rattle.iso_storage.specs.Storing.{IsProgram}
use Rattle.iso_storage.proofs.HeadLemmas.{free_alone}
use Rattle.iso_storage.proofs.KeptPrograms.{program_kept}
use Rattle.iso_storage.proofs.RowLemmas.{IsHeaded, head_named, retract_fault, retract_after, offers_shown}
use Rattle.iso_storage.proofs.shown_clauses.retract.Given.{Over}
use Rattle.iso_storage.proofs.shown_clauses.retract.Goals.{After-clause_parts, After-text-text}
use Rattle.iso_storage.proofs.shown_clauses.retract.Goals as goal

module _ (g : Over) (c : After-clause_parts g) where
  kept : (m : databases.Database) → IsProgram g.C.OfClause.keeps (g.S.Store.names c.args.store.now) (contents c.args.db.now) c.args.callables.now m → IsProgram g.C.OfClause.keeps (g.S.Store.names c.clause_parts.new.store) (contents c.args.db.now) c.args.callables.now m
  kept m is = program_kept g.C.OfClause.stays c.clause_parts.ensures.rest.names is

module _ (g : Over) (c : After-text-text g) where
  headed : IsHeaded (g.S.Store.names c.clause_parts.new.store) (meaning (g.S.Store.present c.clause_parts.new.store) c.in_ok-head.head) retract_key c.in_ok-name.field-0 c.text-text.result.now
  headed = head_named _ _ _ c.clause_parts.ensures.each_once c.text-text.ensures c.in_ok-name.ensures.head

pub returns-in_err-head-clause-kept : goal.returns-in_err-head-clause-kept
returns-in_err-head-clause-kept g c = kept g (goal.at.returns-in_err-head-clause-kept g c).After-clause_parts

pub returns-in_err-name-clause-kept : goal.returns-in_err-name-clause-kept
returns-in_err-name-clause-kept g c = kept g (goal.at.returns-in_err-name-clause-kept g c).After-clause_parts

pub see_changeable-requires : goal.see_changeable-requires
see_changeable-requires g c =
    let at = goal.at.see_changeable-requires g c in
    let k = c.requires.program in
    (g.S.Store.names c.clause_parts.new.store, k.0, kept g at.After-clause_parts k.0 k.1, (headed g at.After-text-text).named)

pub returns-in_err-see_changeable-clause-kept : goal.returns-in_err-see_changeable-clause-kept
returns-in_err-see_changeable-clause-kept g c = kept g (goal.at.returns-in_err-see_changeable-clause-kept g c).After-clause_parts

pub returns-clause-kept : goal.returns-clause-kept
returns-clause-kept g c = kept g (goal.at.returns-clause-kept g c).After-clause_parts

pub clauses_of-view-requires-clause-program : goal.clauses_of-view-requires-clause-program
clauses_of-view-requires-clause-program g c =
    let at = goal.at.clauses_of-view-requires-clause-program g c in
    let k = c.requires.program in
    (g.S.Store.names c.clause_parts.new.store, k.0, kept g at.After-clause_parts k.0 k.1, (headed g at.After-text-text).named)

pub returns-in_err-see_changeable-clause-offered : goal.returns-in_err-see_changeable-clause-offered
returns-in_err-see_changeable-clause-offered g c = λ w was.
    (let names = g.S.Store.names c.clause_parts.new.store in
    let q = g.S.Store.present c.clause_parts.new.store in
    let at = goal.at.returns-in_err-see_changeable-clause-offered g c in
    let h = headed g at.After-text-text in
    let fixed = c.in_err-see_changeable.ensures.fixed names w.database (kept g at.After-clause_parts w.database was) h.named in
    retract_fault (meaning (g.S.Store.present c.args.store.now) c.args.clause) _ _ w _ c.in_ok-head.ensures.head c.in_ok-head.ensures.body h.goes_on g.C.OfClause.keeps names q c.args.db.now
    c.from_residual-in_err-see_changeable.result _ c.from_residual-in_err-see_changeable.ensures.1 fixed c.in_err-see_changeable.ensures.fault)

pub returns-clause-offered : goal.returns-clause-offered
returns-clause-offered g c = λ w was.
    (let names = g.S.Store.names c.clause_parts.new.store in
    let q = g.S.Store.present c.clause_parts.new.store in
    let at = goal.at.returns-clause-offered g c in
    let is = kept g at.After-clause_parts w.database was in
    let h = headed g at.After-text-text in
    let k = key c.text-text.result.now c.in_ok-name.field-0.arity in
    let parts = c.in_ok-head.ensures in
    let free = c.in_ok-see_changeable.ensures.free names w.database is h.named in
    let are = c.clauses_of-view.ensures.are names w.database (meaning q c.in_ok-head.head) is h.named free c.first_key-first.ensures in
    offers_shown g.C.OfClause.keeps names q c.args.db.now c.in_ok-head.head c.in_ok-head.body true k _ _ c.offered.result parts.hold.0 parts.hold.1 h.key_is (free_alone w.database.procedures k free)
    (retract_after (meaning (g.S.Store.present c.args.store.now) c.args.clause) _ _ w k parts.head parts.body h.goes_on false free) (c.offered.ensures names (meaning q c.in_ok-head.head) (clauses_of w.database.procedures k) are))
