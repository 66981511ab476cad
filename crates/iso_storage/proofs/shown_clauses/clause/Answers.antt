use Rattle.std.proofs.Common.{◌≡◌, false, sym, ap, ◌∙◌, codes}
use Rattle.iso_model.specs.Terms.Trees.{Tree}
use Rattle.iso_model.specs.Terms.Types.{is_integer}
use Rattle.iso_model.specs.Search.Errors.{key, not_permitted}
use Rattle.iso_model.specs.Search.Storages.{clauses_of, clause_key}
use Rattle.iso_store_core.specs.Presents.{meaning}
use Rattle.iso_storage.proofs.HeadLemmas.{free_alone}
use Rattle.iso_storage.proofs.RowLemmas.{IsHeaded, not_integer, head_named, clause_refused, clause_after, offers_shown}
use Rattle.iso_storage.proofs.shown_clauses.clause.Given.{Over}
use Rattle.iso_storage.proofs.shown_clauses.clause.Goals.{After-text-text}
use Rattle.iso_storage.proofs.shown_clauses.clause.Goals as goal

module _ (g : Over) (c : After-text-text g) where
  headed : IsHeaded (g.S.Store.names c.args.store.now) (meaning (g.S.Store.present c.args.store.now) c.args.head) clause_key c.in_ok-name.field-0 c.text-text.result.now
  headed = head_named _ _ _ c.shape.ensures.each_once c.text-text.ensures c.in_ok-name.ensures.head

  other : is_integer (meaning (g.S.Store.present c.args.store.now) c.args.body) ≡ false
  other = not_integer (g.S.Store.names c.args.store.now) c.shape.result (meaning (g.S.Store.present c.args.store.now) c.args.body) c.shape.ensures.shape c.in_default.not-Int

pub returns-then-is_fixed-clause-stored : goal.returns-then-is_fixed-clause-stored
returns-then-is_fixed-clause-stored g c = λ w is.
    (let p = g.S.Store.present c.args.store.now in
    let at = (goal.at.returns-then-is_fixed-clause-stored g c).After-text-text in
    let h = headed g at in
    let fixed = sym (c.is_fixed.ensures (g.S.Store.names c.args.store.now) w.database is h.named) ∙ c.if-is_fixed.true in
    let error = c.in_ok-ball-2.ensures ∙ ap (λ (t : Tree). not_permitted (codes "access") (codes "private_procedure") t clause_key) c.in_ok-culprit.ensures in
    clause_refused (meaning p c.args.head) (meaning p c.args.body) w _ h.goes_on (other g at) c.in_ok-ball-2.ball fixed error)

pub returns-clause-stored : goal.returns-clause-stored
returns-clause-stored g c = λ w is.
    (let p = g.S.Store.present c.args.store.now in
    let names = g.S.Store.names c.args.store.now in
    let at = (goal.at.returns-clause-stored g c).After-text-text in
    let h = headed g at in
    let k = key c.text-text.result.now c.in_ok-name.field-0.arity in
    let free = sym (c.is_fixed.ensures names w.database is h.named) ∙ c.if-is_fixed.false in
    let are = c.clauses_of-view.ensures.are names w.database (meaning p c.args.head) is h.named free c.first_key-first.ensures in
    let settled = clause_after (meaning p c.args.head) (meaning p c.args.body) w k h.goes_on (other g at) false free in
    offers_shown g.C.OfClause.keeps names p c.args.db.now c.args.head c.args.body false k _ _ c.offered.result
    c.requires.head c.requires.body h.key_is (free_alone w.database.procedures k free) settled (c.offered.ensures names (meaning p c.args.head) (clauses_of w.database.procedures k) are))
