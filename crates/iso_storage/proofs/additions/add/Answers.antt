use Rattle.iso_model.specs.Search.Errors.{key}
use Rattle.iso_store_core.specs.Presents.{meaning}
use Rattle.iso_storage.specs.Storing.{place_of}
use Rattle.iso_storage.proofs.AdditionLemmas.{unprepared}
use Rattle.iso_storage.proofs.additions.add.Goals as goal

pub returns-in_err-checked-clause-added : goal.returns-in_err-checked-clause-added
returns-in_err-checked-clause-added g c = λ w h.
    unprepared _ _ _ _ w (place_of c.args.way) (key c.args.by.now 1) (meaning (g.S.Store.present c.args.store.now) c.args.clause) _ c.from_residual.result c.in_err-checked.ensures c.from_residual.ensures.1

pub returns-clause-added : goal.returns-clause-added
returns-clause-added g c = λ w h. c.add_checked.ensures.added (meaning (g.S.Store.present c.args.store.now) c.args.clause) w c.in_ok-checked.ensures h
