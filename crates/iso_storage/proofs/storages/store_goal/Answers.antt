use Rattle.std.proofs.Common.{◌≡◌, length, sym, arith}
use Rattle.iso_model.specs.Terms.Arguments.{argument}
use Rattle.iso_model.specs.Terms.Trees.{Tree}
use Rattle.iso_store_core.specs.ArgumentWords.{AreArguments}
use Rattle.iso_store_core.specs.Presents.{meaning}
use Rattle.iso_store_core.proofs.ArgumentLemmas.{argument-is}
use Rattle.iso_storage.proofs.KeptPrograms.{rows_lent}
use Rattle.iso_storage.proofs.StoreLemmas.{offered_as, changed_as, checked_changed, kept_done, kept_always, first_argument}
use Rattle.iso_storage.proofs.storages.store_goal.Given.{Over}
use Rattle.iso_storage.proofs.storages.store_goal.Goals.{After-index-arguments-0}
use Rattle.iso_storage.proofs.storages.store_goal.Goals as goal

first : (g : Over) (c : After-index-arguments-0 g) (t : Tree) → AreArguments (g.S.Store.present c.args.store.now) c.args.arguments.now t
    → meaning (g.S.Store.present c.args.store.now) c.index-arguments-0.result ≡ argument 0 t
first g c t are = first_argument (g.S.Store.present c.args.store.now) c.args.arguments.now t c.index-arguments-0.result c.args.row are c.requires.count c.index-arguments-0.is

pub returns-in-Clause-clause-stored : goal.returns-in-Clause-clause-stored
returns-in-Clause-clause-stored g c = λ t are w is.
    (let p = g.S.Store.present c.args.store.now in
    let here = first g (goal.at.returns-in-Clause-clause-stored g c).After-index-arguments-0 t are in
    let two : length c.args.arguments.now ≡ 2 = rw c.in-Clause.is at c.requires.count in
    let second = argument-is p c.args.arguments.now t 1 c.index-arguments-1.result are (omega (arith, two)) c.index-arguments-1.is in
    rw (c.in-Clause.is, ← here, ← second) (offered_as _ _ _ _ _ w _ c.clause.result (c.clause.ensures.stored w (rows_lent c.as_slice.ensures.value is))))

pub returns-in-Retract-clause-stored : goal.returns-in-Retract-clause-stored
returns-in-Retract-clause-stored g c = λ t are w is.
    (let here = first g (goal.at.returns-in-Retract-clause-stored g c).After-index-arguments-0 t are in
    rw (c.in-Retract.is, ← here) (offered_as _ _ _ _ _ w _ c.retract.result (c.retract.ensures.offered w (rows_lent c.as_slice-in-Retract.ensures.value is))))

pub returns-in-Retract-clause-kept : goal.returns-in-Retract-clause-kept
returns-in-Retract-clause-kept g c = λ m is.
    kept_always _ c.retract.result (rows_lent (sym c.as_slice-in-Retract.ensures.value) (c.retract.ensures.kept m (rows_lent c.as_slice-in-Retract.ensures.value is)))

pub returns-in-Asserta-clause-stored : goal.returns-in-Asserta-clause-stored
returns-in-Asserta-clause-stored g c = λ t are w is.
    (let here = first g (goal.at.returns-in-Asserta-clause-stored g c).After-index-arguments-0 t are in
    rw (c.in-Asserta.is, ← here, c.done.ensures) (changed_as _ _ _ c.add.new.db _ w _ c.add.result (c.add.ensures.added w is)))

pub returns-in-Asserta-clause-kept : goal.returns-in-Asserta-clause-kept
returns-in-Asserta-clause-kept g c = λ m is. kept_done _ _ _ c.done.ensures (c.add.ensures.kept m is)

pub returns-in-Assertz-clause-stored : goal.returns-in-Assertz-clause-stored
returns-in-Assertz-clause-stored g c = λ t are w is.
    (let here = first g (goal.at.returns-in-Assertz-clause-stored g c).After-index-arguments-0 t are in
    rw (c.in-Assertz.is, ← here, c.done-in-Assertz.ensures) (changed_as _ _ _ c.add-in-Assertz.new.db _ w _ c.add-in-Assertz.result (c.add-in-Assertz.ensures.added w is)))

pub returns-in-Assertz-clause-kept : goal.returns-in-Assertz-clause-kept
returns-in-Assertz-clause-kept g c = λ m is. kept_done _ _ _ c.done-in-Assertz.ensures (c.add-in-Assertz.ensures.kept m is)

pub returns-in-Retractall-clause-stored : goal.returns-in-Retractall-clause-stored
returns-in-Retractall-clause-stored g c = λ t are w is.
    (let here = first g (goal.at.returns-in-Retractall-clause-stored g c).After-index-arguments-0 t are in
    rw (c.in-Retractall.is, ← here, c.done-in-Retractall.ensures) (changed_as _ _ _ c.retractall.new.db _ w _ c.retractall.result (c.retractall.ensures.changed w is)))

pub returns-in-Retractall-clause-kept : goal.returns-in-Retractall-clause-kept
returns-in-Retractall-clause-kept g c = λ m is. kept_done _ _ _ c.done-in-Retractall.ensures (c.retractall.ensures.kept m is)

pub returns-in-Abolish-clause-stored : goal.returns-in-Abolish-clause-stored
returns-in-Abolish-clause-stored g c = λ t are w is.
    (let here = first g (goal.at.returns-in-Abolish-clause-stored g c).After-index-arguments-0 t are in
    rw (c.in-Abolish.is, ← here, c.done-in-Abolish.ensures) (changed_as _ _ _ c.abolish.new.db _ w _ c.abolish.result (rw c.as_slice-in-Abolish.ensures.value at (c.abolish.ensures.changed w (rows_lent c.as_slice-in-Abolish.ensures.value is)))))

pub returns-in-Abolish-clause-kept : goal.returns-in-Abolish-clause-kept
returns-in-Abolish-clause-kept g c = λ m is.
    kept_done _ _ _ c.done-in-Abolish.ensures
    (rw c.as_slice-in-Abolish.ensures.value at (c.abolish.ensures.kept m (rows_lent c.as_slice-in-Abolish.ensures.value is)))

pub returns-in-Dynamic-clause-stored : goal.returns-in-Dynamic-clause-stored
returns-in-Dynamic-clause-stored g c = λ t are w is.
    (let here = first g (goal.at.returns-in-Dynamic-clause-stored g c).After-index-arguments-0 t are in
    rw (c.in-Dynamic.is, ← here, c.done-in-Dynamic.ensures) (changed_as _ _ _ c.declare.new.db _ w _ c.declare.result (c.declare.ensures.changed w is)))

pub returns-in-Dynamic-clause-kept : goal.returns-in-Dynamic-clause-kept
returns-in-Dynamic-clause-kept g c = λ m is. kept_done _ _ _ c.done-in-Dynamic.ensures (c.declare.ensures.kept m is)

pub returns-in-Multifile-clause-stored : goal.returns-in-Multifile-clause-stored
returns-in-Multifile-clause-stored g c = λ t are w is.
    (let here = first g (goal.at.returns-in-Multifile-clause-stored g c).After-index-arguments-0 t are in
    rw (c.in-Multifile.is, ← here, c.done-in-Multifile.ensures) (changed_as _ _ _ c.args.db.now _ w _ c.check.result (checked_changed _ _ _ w _ c.check.result is (c.check.ensures.checked w))))

pub returns-in-Discontiguous-clause-stored : goal.returns-in-Discontiguous-clause-stored
returns-in-Discontiguous-clause-stored g c = λ t are w is.
    (let here = first g (goal.at.returns-in-Discontiguous-clause-stored g c).After-index-arguments-0 t are in
    rw (c.in-Discontiguous.is, ← here, c.done-in-Discontiguous.ensures) (changed_as _ _ _ c.args.db.now _ w _ c.check-in-Discontiguous.result (checked_changed _ _ _ w _ c.check-in-Discontiguous.result is (c.check-in-Discontiguous.ensures.checked w))))

pub returns-in-Retractall-clause-cells : goal.returns-in-Retractall-clause-cells
returns-in-Retractall-clause-cells g c = λ t are w is.
    (let here = first g (goal.at.returns-in-Retractall-clause-cells g c).After-index-arguments-0 t are in
    rw (c.in-Retractall.is, ← here) (c.retractall.ensures.cells w is))
