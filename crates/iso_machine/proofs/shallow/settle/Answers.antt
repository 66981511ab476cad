use Rattle.std.proofs.Common.{sym, subst, Err, None}
use Rattle.iso_machine.specs.Came.{CameTo}
use Rattle.iso_machine.specs.Engines.{Engine}
use Rattle.iso_machine.proofs.shallow.settle.Goals as goal

pub try_others-requires-clause-came : goal.try_others-requires-clause-came
try_others-requires-clause-came g c = c.requires.came

pub cut_or_push-requires-clause-stands : goal.cut_or_push-requires-clause-stands
cut_or_push-requires-clause-stands g c = λ choices pushed.
    let r = c.requires.came in
    let on = (c.try_others.ensures.entered r.0 r.3 c.in-Entered.is choices pushed None).next r.1 r.2 in
    (on.0, on.2)

pub returns-in-Entered-clause-came : goal.returns-in-Entered-clause-came
returns-in-Entered-clause-came g c = λ first begun.
    c.cut_or_push.ensures.came first (c.try_others.ensures.entered first begun c.in-Entered.is)

pub returns-in-Refused-clause-came : goal.returns-in-Refused-clause-came
returns-in-Refused-clause-came g c = λ first begun.
    subst (λ (e : Engine g.row.S.Denot g.row.S-Word.Denot g.row.S-Mark.Denot).
    CameTo g.S.Store g.S.Cells.atom_word first (Err c.in-Refused.fault) e) (sym c.push_kept.ensures.same)
    (c.try_others.ensures.refused first c.in-Refused.fault begun c.in-Refused.is c.push_kept.new.search.choices
    c.push_kept.ensures.pushed)

pub returns-in-Last-clause-came : goal.returns-in-Last-clause-came
returns-in-Last-clause-came g c = λ first begun.
    c.try_others.ensures.last first c.in-Last.done begun c.in-Last.is

pub returns-in-Last-clause-alone : goal.returns-in-Last-clause-alone
returns-in-Last-clause-alone g c = λ done. c.try_others.ensures.alone c.in-Last.done c.in-Last.is done

pub try_others-requires-clause-holds : goal.try_others-requires-clause-holds
try_others-requires-clause-holds g c = c.requires.holds
