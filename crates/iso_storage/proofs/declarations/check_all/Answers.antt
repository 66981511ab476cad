use Rattle.std.proofs.Common.{◌++◌, ◌∷◌, [], map}
use Rattle.iso_model.specs.Terms.Trees.{Tree}
use Rattle.iso_model.specs.Search.Errors.{key}
use Rattle.iso_model.specs.Search.Storages.{indicated, all_indicated}
use Rattle.iso_store_core.specs.Presents.{meaning}
use Rattle.iso_lib_core.proofs.CheckLemmas.{handed_on}
use Rattle.iso_storage.specs.Declaring.{AreChecked}
use Rattle.iso_storage.proofs.DeclarationLemmas.{indicated_ok, rest_more, refused_next, checked_refused}
use Rattle.iso_storage.proofs.declarations.check_all.Goals as goal

pub returns-in_err-indicated : goal.returns-in_err-indicated
returns-in_err-indicated g c =
    let p = g.S.Store.present c.args.store.now in
    let names = g.S.Store.names c.args.store.now in
    let check = λ (t : Tree). indicated t (key c.args.by.now 1) in
    let asked = all_indicated check (map (meaning p) c.args.indicators.now) in
    let e = c.in_err-indicated.field-0.0 in
    let h = c.loop-indicator.invariant in
    handed_on (AreChecked asked) c.from_residual.result e c.from_residual.ensures.1
    (checked_refused names asked e (refused_next check p c.args.indicators.now c.loop-indicator.indicator-index h.0 h.1 c.indicator-item.result c.loop-indicator-test.true c.indicator-item.is names e c.in_err-indicated.ensures))

pub loop-indicator-preserved : goal.loop-indicator-preserved
loop-indicator-preserved g c =
    let p = g.S.Store.present c.args.store.now in
    let check = λ (t : Tree). indicated t (key c.args.by.now 1) in
    let h = c.loop-indicator.invariant in
    let named = indicated_ok (g.S.Store.names c.args.store.now) (check (meaning p c.indicator-item.result)) c.in_ok-indicated.field-0 c.in_ok-indicated.ensures in
    (h.0 ++ named.0 ∷ [], rest_more check p c.args.indicators.now c.loop-indicator.indicator-index h.0 h.1 c.indicator-item.result c.loop-indicator-test.true c.indicator-item.is named.0 named.1)
