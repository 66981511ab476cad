use Rattle.std.proofs.Common.{Err, ap, sym, ◌∙◌, subst}
use Rattle.std.proofs.lemmas.Bool.{false≢true}
use Rattle.iso_machine.specs.Came.{IsBehindCalls}
use Rattle.iso_machine.proofs.CameLemmas.{came_behind, came_on, came_shown, full_behind, gone_error, shown_not}
use Rattle.iso_machine.proofs.goals.call_atom.Goals as goal

pub call_word-came-requires-clause-stands : goal.call_word-came-requires-clause-stands
call_word-came-requires-clause-stands g c =
    let shown = c.in_ok-goal.ensures.shown c.requires.1 c.requires.5 in
    (c.requires.2, shown.stands c.requires.2 c.requires.3)

pub returns-in_err-goal : goal.returns-in_err-goal
returns-in_err-goal g c = λ old whole s r behind put.
    came_behind g.S.Store g.S.Cells.atom_word c.args.went c.from_residual.result behind
    (shown_not g.S.Store g.S.Cells.atom_word c.from_residual.result c.from_residual.ensures.0 put
    (λ t h. c.in_err-goal.ensures.stopped whole t put h)
    (full_behind c.from_residual.result _ c.from_residual.ensures.1 (λ is. c.in_err-goal.ensures.full (ap Err is)))
    c.in_err-goal.ensures.stays)
    (λ w. gone_error c.from_residual.result c.from_residual.ensures.0)

pub returns-then-went : goal.returns-then-went
returns-then-went g c = λ old whole s r behind put.
    rw c.behind_others.ensures
    (came_on g.S.Store g.S.Cells.atom_word c.call_word-came.result
    (subst (IsBehindCalls g.S.Store g.S.Cells.atom_word old whole) c.if-went.true behind)
    (came_shown g.S.Store g.S.Cells.atom_word c.call_word-came.result (c.in_ok-goal.ensures.shown whole put)
    c.call_word-came.ensures))

pub returns : goal.returns
returns g c = λ old whole s r behind put.
    came_behind g.S.Store g.S.Cells.atom_word c.args.went c.call_word-came.result behind
    (came_shown g.S.Store g.S.Cells.atom_word c.call_word-came.result (c.in_ok-goal.ensures.shown whole put)
    c.call_word-came.ensures)
    (λ w. absurd (false≢true (sym c.if-went.false ∙ w)))
