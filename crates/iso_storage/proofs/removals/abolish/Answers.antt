use Rattle.std.proofs.Common.{◌≡◌, Some, Ok, sym, ap, ◌∙◌, true, false}
use Rattle.iso_model.specs.Search.Databases as databases
use Rattle.iso_model.specs.Search.Errors.{key}
use Rattle.iso_model.specs.Search.Storages.{is_fixed, indicated, abolish_key}
use Rattle.iso_db.specs.Presents.{contents}
use Rattle.iso_store_core.specs.Presents.{meaning}
use Rattle.iso_program.specs.Programs.{place_at}
use Rattle.iso_program.proofs.KeyingLemmas.{preserves_gone}
use Rattle.iso_program.proofs.ProgramLemmas.{kind_there}
use Rattle.iso_db.specs.Databases as db
use Rattle.iso_storage.specs.Storing.{IsProgram, IsNamed}
use Rattle.iso_storage.proofs.HeadLemmas.{free_alone, user_there, user_within, user_absent}
use Rattle.iso_storage.proofs.KeptPrograms.{changed_refused, changes_fit}
use Rattle.iso_storage.proofs.RowLemmas.{indicated_named}
use Rattle.iso_storage.proofs.RemovalLemmas.{was_done}
use Rattle.iso_storage.proofs.GoneLemmas.{abolish_is, program_gone, program_absent}
use Rattle.iso_storage.proofs.removals.abolish.Given.{Over}
use Rattle.iso_storage.proofs.removals.abolish.Goals.{After-text-text, After-abolish}
use Rattle.iso_storage.proofs.removals.abolish.Goals as goal

module _ (g : Over) (c : After-text-text g) where
  named : (indicated (meaning (g.S.Store.present c.args.store.now) c.args.indicator) abolish_key ≡ Ok (key c.text-text.result.now c.in_ok-name.field-0.arity)) × IsNamed (g.S.Store.names c.args.store.now) c.in_ok-name.field-0 c.text-text.result.now
  named = indicated_named _ _ c.in_ok-name.ensures.each_once c.text-text.ensures c.in_ok-name.ensures.named

module _ (g : Over) (c : After-abolish g) (m : databases.Database)
    (is : IsProgram g.C.OfClause.keeps (g.S.Store.names c.args.store.now) (contents c.args.db.now) c.args.callables.now m)
    (named : IsNamed (g.S.Store.names c.args.store.now) c.in_ok-name.field-0 c.text-text.result.now) where
  free : is_fixed m.procedures (key c.text-text.result.now c.in_ok-name.field-0.arity) ≡ false
  free = c.in_ok-see_changeable.ensures.free (g.S.Store.names c.args.store.now) m is named

  at : place_at (contents c.args.db.now) (key c.text-text.result.now c.in_ok-name.field-0.arity) ≡ Some c.in-Some.place
  at = user_there is named c.in-Some.place (sym c.place_of.ensures ∙ c.in-Some.is)

  gone : contents c.abolish.new.self ≡ db.without_procedure c.in-Some.place (contents c.args.db.now)
  gone =
      let kind = kind_there (contents c.args.db.now) (key c.text-text.result.now c.in_ok-name.field-0.arity) c.in-Some.place at in
      was_done c.abolish.result (c.abolish.ensures.allowed ∙ ap db.is_not_static kind ∙ changes_fit (key c.text-text.result.now c.in_ok-name.field-0.arity) is free) c.abolish.ensures.contents

pub returns-in_err-see_changeable-clause-changed : goal.returns-in_err-see_changeable-clause-changed
returns-in_err-see_changeable-clause-changed g c = λ w is.
    (let h = named g (goal.at.returns-in_err-see_changeable-clause-changed g c).After-text-text in
    let fixed = c.in_err-see_changeable.ensures.fixed (g.S.Store.names c.args.store.now) w.database is h.1 in
    changed_refused g.C.OfClause.keeps (g.S.Store.names c.args.store.now) (contents c.args.db.now) c.args.callables.now w _ _ abolish_key c.from_residual-in_err-see_changeable.result _ c.from_residual-in_err-see_changeable.ensures.1
    (abolish_is (meaning (g.S.Store.present c.args.store.now) c.args.indicator) w _ h.0 true fixed) c.in_err-see_changeable.ensures.fault)

pub abolish-requires : goal.abolish-requires
abolish-requires g c =
    let m = c.requires.program in
    user_within m.1 (named g (goal.at.abolish-requires g c).After-text-text).1 c.in-Some.place (sym c.place_of.ensures ∙ c.in-Some.is)

pub returns-in_default-clause-changed : goal.returns-in_default-clause-changed
returns-in_default-clause-changed g c = λ w is.
    (let names = g.S.Store.names c.args.store.now in
    let d = contents c.args.db.now in
    let k = key c.text-text.result.now c.in_ok-name.field-0.arity in
    let h = named g (goal.at.returns-in_default-clause-changed g c).After-text-text in
    let free = c.in_ok-see_changeable.ensures.free names w.database is h.1 in
    let absent = user_absent is h.1 (sym c.place_of.ensures ∙ c.in_default.is) (free_alone w.database.procedures k free) in
    (0, record w.database { procedures = databases.without_procedure w.database.procedures k }, abolish_is (meaning (g.S.Store.present c.args.store.now) c.args.indicator) w k h.0 false free, program_absent d w.database k absent is))

pub returns-clause-changed : goal.returns-clause-changed
returns-clause-changed g c = λ w is.
    (let sites = goal.at.returns-clause-changed g c in
    let k = key c.text-text.result.now c.in_ok-name.field-0.arity in
    let h = named g sites.After-text-text in
    let s = sites.After-abolish in
    let after = program_gone (contents c.args.db.now) (contents c.abolish.new.self) w.database k c.in-Some.place (at g s w.database is h.1) (gone g s w.database is h.1) is in
    (0, record w.database { procedures = databases.without_procedure w.database.procedures k }, abolish_is (meaning (g.S.Store.present c.args.store.now) c.args.indicator) w k h.0 false (free g s w.database is h.1), after))

pub returns-clause-preserves : goal.returns-clause-preserves
returns-clause-preserves g c =
    let sites = goal.at.returns-clause-preserves g c in
    let m = c.requires.program in
    preserves_gone c.args.db.now c.abolish.new.self c.abolish.ensures.clauses c.abolish.ensures.index c.in-Some.place (gone g sites.After-abolish m.0 m.1 (named g sites.After-text-text).1)
