use Rattle.std.proofs.Common.{◌++◌, ◌∷◌, [], map}
use Rattle.iso_model.specs.Search.Storages.{all_indicated}
use Rattle.iso_store_core.specs.Presents.{meaning}
use Rattle.iso_lib_core.proofs.CheckLemmas.{handed_on}
use Rattle.iso_storage.specs.Declaring.{AreIndicated}
use Rattle.iso_storage.proofs.DeclarationLemmas.{to_declare, indicated_ok, rest_more, rest_none, refused_next, functors_more}
use Rattle.iso_storage.proofs.declarations.all_changeable.Goals as goal

pub returns-in_err-functor : goal.returns-in_err-functor
returns-in_err-functor g c = λ m is.
    (let p = g.S.Store.present c.args.store.now in
    let names = g.S.Store.names c.args.store.now in
    let h = c.loop-indicator.invariant m is in
    handed_on (AreIndicated names (all_indicated (to_declare m.procedures) (map (meaning p) c.args.indicators.now))) c.from_residual.result _ c.from_residual.ensures.1
    (refused_next (to_declare m.procedures) p c.args.indicators.now c.loop-indicator.indicator-index h.0 h.2 c.indicator-item.result c.loop-indicator-test.true c.indicator-item.is names _ (c.in_err-functor.ensures m is)))

pub loop-indicator-preserved : goal.loop-indicator-preserved
loop-indicator-preserved g c = λ m is.
    (let p = g.S.Store.present c.args.store.now in
    let names = g.S.Store.names c.args.store.now in
    let h = c.loop-indicator.invariant m is in
    let named = indicated_ok names (to_declare m.procedures (meaning p c.indicator-item.result)) c.in_ok-functor.functor (c.in_ok-functor.ensures m is) in (
      h.0 ++ named.0 ∷ [],
      rw c.in_ok-push.ensures.items (functors_more names h.0 c.loop-indicator.functors.items named.0 c.in_ok-functor.functor h.1 named.2),
      rest_more (to_declare m.procedures) p c.args.indicators.now c.loop-indicator.indicator-index h.0 h.2 c.indicator-item.result c.loop-indicator-test.true c.indicator-item.is named.0 named.1,
    ))

pub returns : goal.returns
returns g c = λ m is.
    (let h = c.loop-indicator.invariant m is in
    rw (rest_none (to_declare m.procedures) (g.S.Store.present c.args.store.now) c.args.indicators.now c.loop-indicator.indicator-index h.0 h.2 c.loop-indicator-test.false) h.1)
