use Rattle.std.proofs.Common.{◌≡◌, refl, ap, ◌∙◌, true, false}
use Rattle.iso_model.specs.Terms.Trees.{Tree}
use Rattle.iso_model.specs.Search.Additions.{clause_of, with_added}
use Rattle.iso_model.specs.Search.Databases as databases
use Rattle.iso_model.specs.Search.BuiltIns.{is_built_in}
use Rattle.iso_model.specs.Search.Errors.{key}
use Rattle.iso_db.specs.Presents.{contents}
use Rattle.iso_store_core.specs.Retaining.{Retains}
use Rattle.iso_store_core.proofs.RetainLemmas.{retains_on}
use Rattle.iso_lib.specs.declared.indicators.Functor.{Functor}
use Rattle.iso_program.specs.Adding.{IsFound}
use Rattle.iso_program.specs.Kept.{IsAddition}
use Rattle.iso_program.proofs.AddingLemmas.{user_alone}
use Rattle.iso_program.proofs.PrepareLemmas.{checked_key}
use Rattle.iso_program.proofs.WrittenLemmas.{clause_kept}
use Rattle.iso_storage.specs.Storing.{IsProgram, IsNamed, place_of}
use Rattle.iso_storage.proofs.AdditionLemmas.{addition_is, way_more, may_come, checked_few}
use Rattle.iso_storage.proofs.KeptPrograms.{changed_refused, program_kept, rows_lent, found_in, changes_fit, no_memory, on_err}
use Rattle.iso_storage.proofs.additions.add_checked.Given.{Over}
use Rattle.iso_storage.proofs.additions.add_checked.Goals.{After-intern, In_ok-name}
use Rattle.iso_storage.proofs.additions.add_checked.Goals as goal

module _ (g : Over) (c : After-intern g) where
  stood : {m : databases.Database} → IsProgram g.C.OfClause.keeps (g.S.Store.names c.args.store.now) (contents c.args.db.now) c.args.callables.now.items m
      → IsProgram g.C.OfClause.keeps (g.S.Store.names c.intern.new.self) (contents c.args.db.now) c.args.callables.now.items m
  stood h = program_kept g.C.OfClause.stays c.intern.ensures.names (program_kept g.C.OfClause.stays c.in_ok-kept.ensures.rest.names h)

  rest : Retains g.S.Store c.args.store.now c.intern.new.self
  rest = retains_on c.in_ok-kept.ensures.rest (record { names = c.intern.ensures.names; marks = c.intern.ensures.marks })

-- its procedure, whose name has an atom now
module _ (g : Over) (c : In_ok-name g) where
  abbrev own : Functor
  own = record { name = c.in_ok-name.name; arity = c.in-Some.arity }

  named : (t : Tree) → IsAddition t c.args.checked.now → IsNamed (g.S.Store.names c.intern.new.self) own c.in-Some.text.now
  named t is = record { each_once = c.in_ok-name.ensures.each_once; atom = c.in_ok-name.ensures.place; few = checked_few t c.args.checked.now is _ (key c.in-Some.text.now c.in-Some.arity) c.head.ensures c.in-Some.ensures }

  found : {m : databases.Database} → IsProgram g.C.OfClause.keeps (g.S.Store.names c.intern.new.self) (contents c.args.db.now) c.args.callables.now.items m → IsFound (g.S.Store.names c.intern.new.self) own c.in-Some.text.now (contents c.args.db.now) c.args.callables.now.items
  found is = found_in own c.in-Some.text.now is c.in_ok-name.ensures.each_once c.in_ok-name.ensures.place

  same : (t : Tree) (is : IsAddition t c.args.checked.now) → key c.in-Some.text.now c.in-Some.arity ≡ is.key
  same t is = checked_key t c.args.checked.now is _ (key c.in-Some.text.now c.in-Some.arity) c.head.ensures c.in-Some.ensures

pub see_changeable-requires : goal.see_changeable-requires
see_changeable-requires g c =
    let at = goal.at.see_changeable-requires g c in
    let a = c.requires.clause in
    (g.S.Store.names c.intern.new.self, c.requires.program.0, rows_lent c.as_slice.ensures.value (stood g at.After-intern c.requires.program.1), named g at.In_ok-name a.0 a.1)

pub returns-in_err-kept-clause-added : goal.returns-in_err-kept-clause-added
returns-in_err-kept-clause-added g c = λ t w is h. no_memory _ _ _ _ w _ _ c.from_residual.ensures.1

pub returns-in_err-kept-clause-kept : goal.returns-in_err-kept-clause-kept
returns-in_err-kept-clause-kept g c = λ m h. on_err c.from_residual.result _ (program_kept g.C.OfClause.stays c.in_err-kept.ensures.rest.names h)

pub returns-in_err-name-clause-added : goal.returns-in_err-name-clause-added
returns-in_err-name-clause-added g c = λ t w is h. no_memory _ _ _ _ w _ _ c.from_residual-in_err-name.ensures.1

pub returns-in_err-name-clause-kept : goal.returns-in_err-name-clause-kept
returns-in_err-name-clause-kept g c = λ m h. on_err c.from_residual-in_err-name.result _ (stood g (goal.at.returns-in_err-name-clause-kept g c).After-intern h)

pub returns-in_err-name-clause-rest : goal.returns-in_err-name-clause-rest
returns-in_err-name-clause-rest g c = rest g (goal.at.returns-in_err-name-clause-rest g c).After-intern

pub returns-in_err-see_changeable-clause-added : goal.returns-in_err-see_changeable-clause-added
returns-in_err-see_changeable-clause-added g c = λ t w is h.
    (let at = goal.at.returns-in_err-see_changeable-clause-added g c in
    let k = key c.in-Some.text.now c.in-Some.arity in
    let by = key c.args.by.now 1 in
    let last = g.S.Store.names c.intern.new.self in
    let fixed = c.in_err-see_changeable.ensures.fixed last w.database (rows_lent c.as_slice.ensures.value (stood g at.After-intern h)) (named g at.In_ok-name t is) in
    let settled = addition_is t c.args.checked.now is (place_of c.args.way) by w k (same g at.In_ok-name t is) true fixed in
    changed_refused g.C.OfClause.keeps last (contents c.args.db.now) c.args.callables.now.items w _ k by c.from_residual-in_err-see_changeable.result _ c.from_residual-in_err-see_changeable.ensures.1 settled c.in_err-see_changeable.ensures.fault)

pub returns-in_err-see_changeable-clause-kept : goal.returns-in_err-see_changeable-clause-kept
returns-in_err-see_changeable-clause-kept g c = λ m h. on_err c.from_residual-in_err-see_changeable.result _ (stood g (goal.at.returns-in_err-see_changeable-clause-kept g c).After-intern h)

pub returns-in_err-see_changeable-clause-rest : goal.returns-in_err-see_changeable-clause-rest
returns-in_err-see_changeable-clause-rest g c = rest g (goal.at.returns-in_err-see_changeable-clause-rest g c).After-intern

pub add-requires-clause-named : goal.add-requires-clause-named
add-requires-clause-named g c =
    let at = goal.at.add-requires-clause-named g c in
    (g.S.Store.names c.intern.new.self, found g at.In_ok-name (stood g at.After-intern c.requires.program.1))

pub add-requires-clause-user : goal.add-requires-clause-user
add-requires-clause-user g c =
    let a = c.requires.clause in
    user_alone (key c.in-Some.text.now c.in-Some.arity) (ap is_built_in (same g (goal.at.add-requires-clause-user g c).In_ok-name a.0 a.1) ∙ a.1.user)

pub add-requires-clause-allowed : goal.add-requires-clause-allowed
add-requires-clause-allowed g c =
    let at = goal.at.add-requires-clause-allowed g c in
    let a = c.requires.clause in
    let m = c.requires.program in
    let free = c.in_ok-see_changeable.ensures.free (g.S.Store.names c.intern.new.self) m.0 (rows_lent c.as_slice.ensures.value (stood g at.After-intern m.1)) (named g at.In_ok-name a.0 a.1) in
    may_come c.args.way c.requires.way _ (changes_fit (key c.in-Some.text.now c.in-Some.arity) m.1 free)

pub returns-in_err-add-clause-added : goal.returns-in_err-add-clause-added
returns-in_err-add-clause-added g c = λ t w is h. no_memory _ _ _ _ w _ _ c.from_residual-in_err-add.ensures.1

pub returns-in_err-add-clause-kept : goal.returns-in_err-add-clause-kept
returns-in_err-add-clause-kept g c = λ m h.
    (let at = goal.at.returns-in_err-add-clause-kept g c in
    let before = stood g at.After-intern h in
    let now = c.in_err-add.ensures.err (g.S.Store.names c.intern.new.self) m (found g at.In_ok-name before) before.database in
    on_err c.from_residual-in_err-add.result _ (record { database = now.0; found = now.1 }))

pub returns-in_err-add-clause-rest : goal.returns-in_err-add-clause-rest
returns-in_err-add-clause-rest g c = rest g (goal.at.returns-in_err-add-clause-rest g c).After-intern

pub returns-clause-added : goal.returns-clause-added
returns-clause-added g c = λ t w is h.
    (let at = goal.at.returns-clause-added g c in
    let k = key c.in-Some.text.now c.in-Some.arity in
    let first = g.S.Store.names c.written_clause.new.store in
    let last = g.S.Store.names c.intern.new.self in
    let before = stood g at.After-intern h in
    let free = c.in_ok-see_changeable.ensures.free last w.database (rows_lent c.as_slice.ensures.value before) (named g at.In_ok-name t is) in
    let settled = addition_is t c.args.checked.now is (place_of c.args.way) (key c.args.by.now 1) w k (same g at.In_ok-name t is) false free in
    let new = clause_of t is.body w.database.added in
    let kept = clause_kept first last c.in_ok-name.ensures.names g.C.OfClause.stays c.in_ok-kept.kept new (c.in_ok-kept.ensures.clause new (is.clause w.database.added)) in
    let came = c.in_ok-add.ensures.ok last w.database new (found g at.In_ok-name before) before.database kept refl in
    (0, with_added (place_of c.args.way) databases.Dynamic t k is.body w.database, settled, record { database = rw (way_more c.args.way c.requires.way w.database t k is.body) at came.0; found = came.1 }))

pub returns-clause-rest : goal.returns-clause-rest
returns-clause-rest g c = rest g (goal.at.returns-clause-rest g c).After-intern
