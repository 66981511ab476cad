use Rattle.std.proofs.Common.{◌≡◌, Ok, Err, Result, map, length, ap, ◌∙◌, arith}
use Rattle.std.proofs.lemmas.List.{length-map}
use Rattle.iso_model.specs.Search.Storages.{dynamic_key, dynamic_settled, all_indicated, declared}
use Rattle.iso_model.specs.Search.Worlds.{World}
use Rattle.iso_db.specs.Presents.{contents}
use Rattle.iso_store_core.specs.Presents.{meaning}
use Rattle.iso_lib_core.specs.declared.outcomes.Fault.{Fault}
use Rattle.iso_lib_core.specs.declared.outcomes.Fault.TheVariants as fault
use Rattle.iso_lib_core.proofs.CheckLemmas.{handed_on}
use Rattle.iso_program.proofs.KeyingLemmas.{preserves_on}
use Rattle.iso_storage.specs.Storing.{IsChanged}
use Rattle.iso_storage.specs.Declaring.{AreIndicated, all_dynamic}
use Rattle.iso_storage.proofs.KeptPrograms.{on_err, rows_lent}
use Rattle.iso_storage.proofs.DeclarationLemmas.{to_declare, some_named, indicated_users, placed_within, goes_on, refused_changed, declared_changed, never_full}
use Rattle.iso_storage.proofs.declarations.declare.Given.{Over}
use Rattle.iso_storage.proofs.declarations.declare.Goals.{After-as_slice-2, After-as_slice-3}
use Rattle.iso_storage.proofs.declarations.declare.Goals as goal

-- what goes on with the parts
asked : (g : Over) (c : After-as_slice-2 g) (w : World) → dynamic_settled (meaning (g.S.Store.present c.args.store.now) c.args.argument) w
    ≡ declared w (all_indicated (to_declare w.database.procedures) (map (meaning (g.S.Store.present c.args.store.now)) c.as_slice-2.result.now))
asked g c w =
    rw c.as_slice-2.ensures.value (ap (declared w) (goes_on (g.S.Store.present c.args.store.now) dynamic_key (meaning (g.S.Store.present c.args.store.now) c.args.argument) (to_declare w.database.procedures) c.in_ok-parts.parts c.in_ok-parts.ensures.parts))

pub returns-in_err-functors-clause-changed : goal.returns-in_err-functors-clause-changed
returns-in_err-functors-clause-changed g c = λ w is.
    (let names = g.S.Store.names c.args.store.now in
    let d = contents c.args.db.now in
    let same = asked g (goal.at.returns-in_err-functors-clause-changed g c).After-as_slice-2 w in
    let h = c.in_err-functors.ensures w.database (rows_lent c.as_slice.ensures.value is) in
    handed_on (IsChanged g.C.OfClause.keeps names d c.args.callables.now.items w _) c.from_residual-in_err-functors.result _ c.from_residual-in_err-functors.ensures.1
    (refused_changed g.C.OfClause.keeps names d c.args.callables.now.items w _ _ c.in_err-functors.field-0.0 same h))

pub returns-in_err-functors-clause-full : goal.returns-in_err-functors-clause-full
returns-in_err-functors-clause-full g c =
    let h = c.in_err-functors.ensures c.requires.program.0 (rows_lent c.as_slice.ensures.value c.requires.program.1) in
    handed_on (λ (r : Result Unit Fault). r ≡ Err fault.Full → ⊥) c.from_residual-in_err-functors.result _ c.from_residual-in_err-functors.ensures.1 (never_full (g.S.Store.names c.args.store.now) _ c.in_err-functors.field-0.0 h)

-- the procedures that are named
named : (g : Over) (c : After-as_slice-3 g) → AreIndicated (g.S.Store.names c.args.store.now) (all_indicated (to_declare c.requires.program.0.procedures) (map (meaning (g.S.Store.present c.args.store.now)) c.as_slice-2.result.now)) (Ok c.in_ok-functors.functors)
named g c = c.in_ok-functors.ensures c.requires.program.0 (rows_lent c.as_slice.ensures.value c.requires.program.1)

pub places-requires-clause-each_once : goal.places-requires-clause-each_once
places-requires-clause-each_once g c = λ some.
    (let there = some_named _ (to_declare c.requires.program.0.procedures) (map (meaning (g.S.Store.present c.args.store.now)) c.as_slice-2.result.now) c.in_ok-functors.functors
    (named g (goal.at.places-requires-clause-each_once g c).After-as_slice-3) (rw c.as_slice-3.ensures.value at some) in
    let long = length-map c.as_slice-2.result.now (meaning (g.S.Store.present c.args.store.now)) in
    let lent = ap length c.as_slice-2.ensures.value in
    c.in_ok-parts.ensures.each_once (omega (arith, there, long, lent)))

pub places-requires-clause-users : goal.places-requires-clause-users
places-requires-clause-users g c =
    rw c.as_slice-3.ensures.value (indicated_users c.requires.program.0.procedures _ (map (meaning (g.S.Store.present c.args.store.now)) c.as_slice-2.result.now) c.in_ok-functors.functors (named g (goal.at.places-requires-clause-users g c).After-as_slice-3))

pub declare_all-requires : goal.declare_all-requires
declare_all-requires g c = rw c.as_slice-4.ensures.value (placed_within _ _ _ c.as_slice-3.result.now c.in_ok-places.places.items c.in_ok-places.ensures.placed)

pub returns-clause-changed : goal.returns-clause-changed
returns-clause-changed g c = λ w is.
    (let d = contents c.places.new.db in
    let same = asked g (goal.at.returns-clause-changed g c).After-as_slice-2 w in
    let h = c.in_ok-functors.ensures w.database (rows_lent c.as_slice.ensures.value is) in
    let now = c.declare_all.ensures.contents ∙ ap (λ is. all_dynamic is d) c.as_slice-4.ensures.value in
    declared_changed (g.S.Store.names c.args.store.now) d (contents c.declare_all.new.db) c.places.new.callables.items w _ _ c.in_ok-functors.functors c.in_ok-places.places.items same h
    (rw c.as_slice-3.ensures.value at c.in_ok-places.ensures.placed) (c.in_ok-places.ensures.kept w.database is) now)

pub returns-in_err-places-clause-kept : goal.returns-in_err-places-clause-kept
returns-in_err-places-clause-kept g c = λ m is. on_err c.from_residual-in_err-places.result _ (c.in_err-places.ensures.kept m is)

pub returns-clause-preserves : goal.returns-clause-preserves
returns-clause-preserves g c = preserves_on c.args.db.now c.places.new.db c.declare_all.new.db c.in_ok-places.ensures.preserves c.declare_all.ensures.preserves
