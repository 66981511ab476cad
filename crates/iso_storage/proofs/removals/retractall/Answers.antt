use Rattle.std.proofs.Common.{◌≡◌, true, false, not, ap, ◌∙◌, filter}
use Rattle.iso_model.specs.Search.Databases as databases
use Rattle.iso_model.specs.Search.Errors.{key}
use Rattle.iso_model.specs.Search.Storages.{is_fixed, clauses_of, head_unifies, largest_head, retractall_key}
use Rattle.iso_db.specs.Databases.{is_not_static}
use Rattle.iso_db.specs.Presents.{contents}
use Rattle.iso_store_core.specs.Presents.{meaning}
use Rattle.iso_program.proofs.KeyingLemmas.{preserves_on}
use Rattle.iso_storage.specs.Storing.{IsProgram, IsNamed}
use Rattle.iso_storage.proofs.HeadLemmas.{free_alone}
use Rattle.iso_storage.proofs.KeptPrograms.{changed_refused, changes_fit, rows_lent, found_in, on_err}
use Rattle.iso_storage.proofs.RowLemmas.{IsHeaded, head_named}
use Rattle.iso_storage.proofs.GoneLemmas.{retractall_is, program_retracted}
use Rattle.iso_storage.proofs.removals.retractall.Given.{Over}
use Rattle.iso_storage.proofs.removals.retractall.Goals.{After-text-text, After-matching_at}
use Rattle.iso_storage.proofs.removals.retractall.Goals as goal

module _ (g : Over) (c : After-text-text g) where
  headed : IsHeaded (g.S.Store.names c.args.store.now) (meaning (g.S.Store.present c.args.store.now) c.args.head) retractall_key c.in_ok-name.field-0 c.text-text.result.now
  headed = head_named _ _ _ c.in_ok-name.ensures.each_once c.text-text.ensures c.in_ok-name.ensures.head

module _ (g : Over) (c : After-matching_at g) (m : databases.Database)
    (is : IsProgram g.C.OfClause.keeps (g.S.Store.names c.args.store.now) (contents c.args.db.now) c.args.callables.now.items m) where
  free : IsNamed (g.S.Store.names c.args.store.now) c.in_ok-name.field-0 c.text-text.result.now → is_fixed m.procedures (key c.text-text.result.now c.in_ok-name.field-0.arity) ≡ false
  free named = c.in_ok-see_changeable.ensures.free (g.S.Store.names c.args.store.now) m (rows_lent c.as_slice.ensures.value is) named

  -- once it has a place
  stood : IsProgram g.C.OfClause.keeps (g.S.Store.names c.args.store.now) (contents c.place.new.db) c.place.new.callables.items m
  stood = record {
    database = c.in_ok-place.ensures.database (g.S.Store.names c.args.store.now) m is.database;
    found = c.in_ok-place.ensures.found (g.S.Store.names c.args.store.now) (found_in c.in_ok-name.field-0 c.text-text.result.now is c.in_ok-name.ensures.each_once c.text-text.ensures);
  }

pub returns-in_err-see_changeable-clause-changed : goal.returns-in_err-see_changeable-clause-changed
returns-in_err-see_changeable-clause-changed g c = λ w is.
    (let h = headed g (goal.at.returns-in_err-see_changeable-clause-changed g c).After-text-text in
    let fixed = c.in_err-see_changeable.ensures.fixed (g.S.Store.names c.args.store.now) w.database (rows_lent c.as_slice.ensures.value is) h.named in
    changed_refused g.C.OfClause.keeps (g.S.Store.names c.args.store.now) (contents c.args.db.now) c.args.callables.now.items w _ _ retractall_key c.from_residual-in_err-see_changeable.result _ c.from_residual-in_err-see_changeable.ensures.1
    (retractall_is (meaning (g.S.Store.present c.args.store.now) c.args.head) (g.S.Store.present c.args.store.now).next w _ h.goes_on true fixed) c.in_err-see_changeable.ensures.fault)

pub place-requires-clause-user : goal.place-requires-clause-user
place-requires-clause-user g c =
    let m = c.requires.program in
    let h = headed g (goal.at.place-requires-clause-user g c).After-text-text in
    free_alone m.0.procedures (key c.text-text.result.now c.in_ok-name.field-0.arity) (c.in_ok-see_changeable.ensures.free _ m.0 (rows_lent c.as_slice.ensures.value m.1) h.named)

pub returns-in_err-place-clause-kept : goal.returns-in_err-place-clause-kept
returns-in_err-place-clause-kept g c = λ m is.
    (let names = g.S.Store.names c.args.store.now in
    let found = c.in_err-place.ensures.found names (found_in c.in_ok-name.field-0 c.text-text.result.now is c.in_ok-name.ensures.each_once c.text-text.ensures) in
    on_err c.from_residual-in_err-place.result _ (record { database = c.in_err-place.ensures.database names m is.database; found = found }))

pub matching_at-requires-clause-place : goal.matching_at-requires-clause-place
matching_at-requires-clause-place g c =
    let m = c.requires.program in
    (key c.text-text.result.now c.in_ok-name.field-0.arity, m.0, c.in_ok-place.ensures.place, c.in_ok-place.ensures.database (g.S.Store.names c.args.store.now) m.0 m.1.database)

pub returns-in_err-numbers-clause-cells : goal.returns-in_err-numbers-clause-cells
returns-in_err-numbers-clause-cells g c = λ w is.
    (let at = goal.at.returns-in_err-numbers-clause-cells g c in
    let h = headed g at.After-text-text in
    let changes = retractall_is (meaning (g.S.Store.present c.args.store.now) c.args.head) (g.S.Store.present c.args.store.now).next w _ h.goes_on false (free g at.After-matching_at w.database is h.named) in
    rw changes (c.in_err-numbers.ensures.cells _ w.database c.in_ok-place.ensures.place (stood g at.After-matching_at w.database is).database))

pub returns-in_err-numbers-clause-kept : goal.returns-in_err-numbers-clause-kept
returns-in_err-numbers-clause-kept g c = λ m is.
    on_err c.from_residual-in_err-numbers.result _ (rw c.in_err-numbers.ensures.rest.names (stood g (goal.at.returns-in_err-numbers-clause-kept g c).After-matching_at m is))

pub remove_all-requires-clause-allowed : goal.remove_all-requires-clause-allowed
remove_all-requires-clause-allowed g c =
    let at = goal.at.remove_all-requires-clause-allowed g c in
    let m = c.requires.program in
    ap is_not_static c.in_ok-place.ensures.kind ∙ changes_fit (key c.text-text.result.now c.in_ok-name.field-0.arity) m.1 (free g at.After-matching_at m.0 m.1 (headed g at.After-text-text).named)

pub returns-clause-changed : goal.returns-clause-changed
returns-clause-changed g c = λ w is.
    (let at = goal.at.returns-clause-changed g c in
    let p = g.S.Store.present c.args.store.now in
    let t = meaning p c.args.head in
    let k = key c.text-text.result.now c.in_ok-name.field-0.arity in
    let new = contents c.remove_all.new.db in
    let h = headed g at.After-text-text in
    let before = stood g at.After-matching_at w.database is in
    let those = c.as_slice-2.ensures.value ∙ c.in_ok-numbers.ensures.matching k w.database c.in_ok-place.ensures.place before.database in
    let m : databases.Database = record w.database { procedures = databases.with_clauses (filter (λ x. not (head_unifies t p.next x))) databases.Dynamic w.database.procedures k } in
    let after = program_retracted (contents c.place.new.db) new w.database c.in_ok-place.place (head_unifies t p.next) c.as_slice-2.result.now c.in_ok-name.field-0 c.text-text.result.now
    c.in_ok-place.ensures.place those c.remove_all.ensures.contents c.text-text.ensures c.in_ok-place.ensures.called before in (
      largest_head (clauses_of w.database.procedures k),
      m,
      retractall_is t p.next w k h.goes_on false (free g at.After-matching_at w.database is h.named),
      rw c.in_ok-numbers.ensures.rest.names after,
    ))

pub returns-clause-preserves : goal.returns-clause-preserves
returns-clause-preserves g c = preserves_on c.args.db.now c.place.new.db c.remove_all.new.db c.in_ok-place.ensures.preserves c.remove_all.ensures.preserves
