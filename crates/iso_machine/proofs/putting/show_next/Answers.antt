use Rattle.std.proofs.Common.{Err, ap, ◌∙◌}
use Rattle.iso_machine.specs.GoalCalls.{goal_put}
use Rattle.iso_machine.proofs.CameLemmas.{full_behind, shown_left, shown_not, still_called}
use Rattle.iso_machine.proofs.putting.show_next.Goals as goal

pub returns-in_err-goal : goal.returns-in_err-goal
returns-in_err-goal g c = λ old later put calling other.
    shown_not g.S.Store g.S.Cells.atom_word c.from_residual.result c.from_residual.ensures.0 put
    (λ s r. c.in_err-goal.ensures.stopped old s put r)
    (full_behind c.from_residual.result _ c.from_residual.ensures.1 (λ is. c.in_err-goal.ensures.full (ap Err is)))
    c.in_err-goal.ensures.stays

pub returns : goal.returns
returns g c = λ old later put calling other.
    let e = c.args.search.now in
    let new = c.show_goal.new.search in
    let steps = ap (λ x. x.steps) c.in_ok-goal.ensures.same in
    shown_left g.S.Store g.S.Cells.atom_word c.args.called (c.in_ok-goal.ensures.shown old put) later
    (still_called g.S.Store g.S.Cells.atom_word e new later (goal_put g.S.Store g.S.Cells.atom_word e c.args.name)
    c.args.called c.in_ok-goal.ensures.same c.in_ok-goal.ensures.names calling)
    (λ more clause is. other (λ none. more (steps ∙ none)) clause is)
