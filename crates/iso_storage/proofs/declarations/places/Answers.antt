use Rattle.std.proofs.Common.{take}
use Rattle.iso_db.specs.Presents.{contents}
use Rattle.iso_program.proofs.KeyingLemmas.{preserves_on}
use Rattle.iso_storage.proofs.DeclarationLemmas.{placed_kept, placed_next}
use Rattle.iso_storage.proofs.declarations.places.Goals as goal

pub place_of-requires-clause-program : goal.place_of-requires-clause-program
place_of-requires-clause-program g c = (c.requires.program.0, c.loop-functor.invariant.kept c.requires.program.0 c.requires.program.1)

pub returns-in_err-place-clause-kept : goal.returns-in_err-place-clause-kept
returns-in_err-place-clause-kept g c = λ m is. c.in_err-place.ensures.kept m (c.loop-functor.invariant.kept m is)

pub returns-in_err-place-clause-preserves : goal.returns-in_err-place-clause-preserves
returns-in_err-place-clause-preserves g c = preserves_on c.args.db.now c.loop-functor.db c.place_of.new.db c.loop-functor.invariant.preserves c.in_err-place.ensures.preserves

pub returns-in_err-push-clause-kept : goal.returns-in_err-push-clause-kept
returns-in_err-push-clause-kept g c = λ m is. c.in_ok-place.ensures.kept m (c.loop-functor.invariant.kept m is)

pub returns-in_err-push-clause-preserves : goal.returns-in_err-push-clause-preserves
returns-in_err-push-clause-preserves g c = preserves_on c.args.db.now c.loop-functor.db c.place_of.new.db c.loop-functor.invariant.preserves c.in_ok-place.ensures.preserves

pub loop-functor-preserved : goal.loop-functor-preserved
loop-functor-preserved g c =
    let names = g.S.Store.names c.args.store.now in
    let fs = c.args.functors.now in
    let k = c.loop-functor.functor-index in
    let placed = c.in_ok-place.ensures in
    let d = contents c.place_of.new.db in
    let rows = c.place_of.new.callables.items in
    let before = placed_kept names (contents c.loop-functor.db) d c.loop-functor.callables.items rows (take k fs) c.loop-functor.places.items placed.stays c.loop-functor.invariant.placed in
    record {
      placed = placed_next names d rows fs k c.functor-item.result c.loop-functor.places.items c.push.new.self.items c.in_ok-place.place c.loop-functor-test.true c.functor-item.is c.in_ok-push.ensures.items before placed.placed;
      kept = λ m is. placed.kept m (c.loop-functor.invariant.kept m is);
      preserves = preserves_on c.args.db.now c.loop-functor.db c.place_of.new.db c.loop-functor.invariant.preserves placed.preserves;
    }
