-- The place is that of the key, and is found by the atom.
use Rattle.std.proofs.Common.{◌≡◌, ◌==◌, ◌&&◌, ap, ◌∙◌, Some, subst}
use Rattle.iso_model.specs.Search.Errors.{key}
use Rattle.iso_db.specs.Databases.{Database}
use Rattle.iso_db.specs.Presents.{contents}
use Rattle.iso_program.specs.declared.clauses.Clause.{Clause}
use Rattle.iso_program.specs.declared.callables.Callee.TheVariants as callee
use Rattle.std.specs.Option.{option_or}
use Rattle.iso_program.specs.Callables.{where_holds}
use Rattle.iso_program.specs.Programs.{place_at, kept_at, kind_of}
use Rattle.iso_program.proofs.KeyingLemmas.{preserves_same, preserves_placed}
use Rattle.iso_program.proofs.AddingLemmas.{called_own, found_by, found_callee, user_there, finds_placed, finds_new}
use Rattle.iso_program.proofs.ProgramLemmas.{placed_kept, placed_stays, database_placed, kind_there}
use Rattle.iso_program.proofs.procedures.place.Goals as goal

pub unreachable-requires : goal.unreachable-requires
unreachable-requires g c =
    let h = c.requires.named in
    let d = contents c.args.db.now in
    let found = found_by c.args.callables.now.items _ c.args.functor _ _ c.as_slice.ensures.value c.find.ensures (c.in-Some-BuiltIn.is ∙ ap Some c.in-Some-BuiltIn.field-0-is) in
    let own = called_own d (key c.args.text.now c.args.functor.arity) _ (found_callee h.0 c.args.functor c.args.text.now d c.args.callables.now.items h.1 _ found) in
    cc (own, c.requires.user)

pub returns-in-Some-User-clause-place : goal.returns-in-Some-User-clause-place
returns-in-Some-User-clause-place g c =
    let found = found_by c.args.callables.now.items _ c.args.functor _ _ c.as_slice.ensures.value c.find.ensures (c.in-Some-User.is ∙ ap Some c.in-Some-User.field-0-is) in
    rw c.in-Some-User.place-is (user_there _ c.args.functor c.args.text.now (contents c.args.db.now) c.args.callables.now.items c.requires.named.1 _ found).0

pub returns-in-Some-User-clause-within : goal.returns-in-Some-User-clause-within
returns-in-Some-User-clause-within g c =
    let found = found_by c.args.callables.now.items _ c.args.functor _ _ c.as_slice.ensures.value c.find.ensures (c.in-Some-User.is ∙ ap Some c.in-Some-User.field-0-is) in
    rw c.in-Some-User.place-is (user_there _ c.args.functor c.args.text.now (contents c.args.db.now) c.args.callables.now.items c.requires.named.1 _ found).1

pub returns-in-Some-User-clause-kind : goal.returns-in-Some-User-clause-kind
returns-in-Some-User-clause-kind g c =
    let found = found_by c.args.callables.now.items _ c.args.functor _ _ c.as_slice.ensures.value c.find.ensures (c.in-Some-User.is ∙ ap Some c.in-Some-User.field-0-is) in
    rw c.in-Some-User.place-is (user_there _ c.args.functor c.args.text.now (contents c.args.db.now) c.args.callables.now.items c.requires.named.1 _ found).2

pub returns-in_err-insert-in-None-clause-found : goal.returns-in_err-insert-in-None-clause-found
returns-in_err-insert-in-None-clause-found g c = λ names h.
    (let none = found_by c.args.callables.now.items _ c.args.functor _ _ c.as_slice.ensures.value c.find.ensures c.in-None.is in
    rw c.in_ok-place-in-None.ensures.contents
    (finds_placed names c.args.functor c.args.text.now (contents c.args.db.now) c.args.callables.now.items h c.insert.new.callables.items none c.in_err-insert-in-None.ensures.err c.requires.user))

pub returns-in_ok-insert-in-None-clause-found : goal.returns-in_ok-insert-in-None-clause-found
returns-in_ok-insert-in-None-clause-found g c = λ names h.
    (let none = found_by c.args.callables.now.items _ c.args.functor _ _ c.as_slice.ensures.value c.find.ensures c.in-None.is in
    let placed = c.in_ok-place-in-None.ensures in
    rw placed.contents
    (finds_new names c.args.functor c.args.text.now (contents c.args.db.now) c.args.callables.now.items h c.insert.new.callables.items _ none c.requires.user
    (subst (λ (d : Database (Clause g.row.C.Denot)). place_at d (key c.args.text.now c.args.functor.arity) ≡ Some c.in_ok-place-in-None.place) placed.contents placed.place) c.in_ok-insert-in-None.ensures.ok))

pub returns-in_err-insert-in-None-clause-database : goal.returns-in_err-insert-in-None-clause-database
returns-in_err-insert-in-None-clause-database g c = λ names m is.
    rw c.in_ok-place-in-None.ensures.contents (database_placed (contents c.args.db.now) m c.args.text.now c.args.functor.arity is)

pub returns-in_ok-insert-in-None-clause-database : goal.returns-in_ok-insert-in-None-clause-database
returns-in_ok-insert-in-None-clause-database g c = λ names m is.
    rw c.in_ok-place-in-None.ensures.contents (database_placed (contents c.args.db.now) m c.args.text.now c.args.functor.arity is)

pub returns-in_ok-insert-in-None-clause-kind : goal.returns-in_ok-insert-in-None-clause-kind
returns-in_ok-insert-in-None-clause-kind g c =
    let k = key c.args.text.now c.args.functor.arity in
    let placed = c.in_ok-place-in-None.ensures in
    kind_there (contents c.place.new.self) k _ placed.place
    ∙ ap (λ (d : Database (Clause g.row.C.Denot)). kind_of (kept_at d k)) placed.contents ∙ (placed_kept (contents c.args.db.now) c.args.text.now c.args.functor.arity k).0

pub returns-in_err-insert-in-None-clause-stays : goal.returns-in_err-insert-in-None-clause-stays
returns-in_err-insert-in-None-clause-stays g c = record {
  places = placed_stays (contents c.args.db.now) (contents c.place.new.self) c.args.text.now c.args.functor.arity c.in_ok-place-in-None.ensures.contents;
  calls = λ a n x had. c.in_err-insert-in-None.ensures.err a n ∙ had;
}

pub returns-in_ok-insert-in-None-clause-stays : goal.returns-in_ok-insert-in-None-clause-stays
returns-in_ok-insert-in-None-clause-stays g c = record {
  places = placed_stays (contents c.args.db.now) (contents c.place.new.self) c.args.text.now c.args.functor.arity c.in_ok-place-in-None.ensures.contents;
  calls = λ a n x had. c.in_ok-insert-in-None.ensures.ok a n ∙ ap (λ o. option_or o (where_holds (a == c.args.functor.name && c.args.functor.arity == n) (callee.User c.in_ok-place-in-None.place))) had;
}

pub returns-in_err-place-in-None-clause-preserves : goal.returns-in_err-place-in-None-clause-preserves
returns-in_err-place-in-None-clause-preserves g c = preserves_same c.args.db.now c.place.new.self c.place.ensures.clauses c.place.ensures.index c.in_err-place-in-None.ensures.unchanged

pub returns-in_err-insert-in-None-clause-preserves : goal.returns-in_err-insert-in-None-clause-preserves
returns-in_err-insert-in-None-clause-preserves g c =
    preserves_placed c.args.db.now c.place.new.self c.place.ensures.clauses c.place.ensures.index c.args.text.now c.args.functor.arity c.in_ok-place-in-None.ensures.contents

pub returns-in_ok-insert-in-None-clause-preserves : goal.returns-in_ok-insert-in-None-clause-preserves
returns-in_ok-insert-in-None-clause-preserves g c =
    preserves_placed c.args.db.now c.place.new.self c.place.ensures.clauses c.place.ensures.index c.args.text.now c.args.functor.arity c.in_ok-place-in-None.ensures.contents
