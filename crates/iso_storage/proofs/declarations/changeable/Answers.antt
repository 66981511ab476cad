use Rattle.iso_model.specs.Search.Storages.{changeable, dynamic_key, indicated}
use Rattle.iso_store_core.specs.Presents.{meaning}
use Rattle.iso_lib_core.proofs.CheckLemmas.{handed_on}
use Rattle.iso_lib.specs.Indicators.{IsIndicated}
use Rattle.iso_storage.proofs.RowLemmas.{indicated_named}
use Rattle.iso_storage.proofs.DeclarationLemmas.{changeable_refused, changeable_fault, changeable_free}
use Rattle.iso_storage.proofs.declarations.changeable.Goals as goal

pub returns-in_err-name : goal.returns-in_err-name
returns-in_err-name g c = λ m is.
    (let names = g.S.Store.names c.args.store.now in
    let asked = indicated (meaning (g.S.Store.present c.args.store.now) c.args.indicator) dynamic_key in
    handed_on (IsIndicated names (changeable m.procedures dynamic_key asked)) c.from_residual.result _ c.from_residual.ensures.1 (changeable_refused m.procedures names asked _ c.in_err-name.ensures))

pub returns-in_err-see_changeable : goal.returns-in_err-see_changeable
returns-in_err-see_changeable g c = λ m is.
    (let names = g.S.Store.names c.args.store.now in
    let asked = indicated (meaning (g.S.Store.present c.args.store.now) c.args.indicator) dynamic_key in
    let h = indicated_named asked c.in_ok-name.field-0 c.requires.each_once c.text-text.ensures c.in_ok-name.ensures in
    handed_on (IsIndicated names (changeable m.procedures dynamic_key asked)) c.from_residual-in_err-see_changeable.result _ c.from_residual-in_err-see_changeable.ensures.1
    (changeable_fault m.procedures names asked _ _ h.0 (c.in_err-see_changeable.ensures.fixed names m is h.1) c.in_err-see_changeable.ensures.fault))

pub returns : goal.returns
returns g c = λ m is.
    (let names = g.S.Store.names c.args.store.now in
    let asked = indicated (meaning (g.S.Store.present c.args.store.now) c.args.indicator) dynamic_key in
    let h = indicated_named asked c.in_ok-name.field-0 c.requires.each_once c.text-text.ensures c.in_ok-name.ensures in
    changeable_free m.procedures names asked _ c.in_ok-name.field-0 c.in_ok-name.ensures h.0 (c.in_ok-see_changeable.ensures.free names m is h.1))
