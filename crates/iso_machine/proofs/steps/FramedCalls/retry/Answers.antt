use Rattle.std.proofs.Common.{None, Err, ap}
use Rattle.iso_program.proofs.ResultLemmas.{behind_error}
use Rattle.iso_machine.proofs.CameLemmas.{full_behind}
use Rattle.iso_machine.proofs.steps.FramedCalls.retry.Goals as goal

pub returns-in_err-try_next-clause-stopped : goal.returns-in_err-try_next-clause-stopped
returns-in_err-try_next-clause-stopped g c = λ s stands.
    behind_error c.from_residual.result ((c.in_err-try_next.ensures.came None).stopped s stands)

pub returns-in_err-try_next-clause-full : goal.returns-in_err-try_next-clause-full
returns-in_err-try_next-clause-full g c =
    full_behind c.from_residual.result _ c.from_residual.ensures.1
    (λ is. (c.in_err-try_next.ensures.came None).full (ap Err is))

pub returns-in_err-try_next-clause-stays : goal.returns-in_err-try_next-clause-stays
returns-in_err-try_next-clause-stays g c = (c.in_err-try_next.ensures.came None).stays

pub returns-clause-next : goal.returns-clause-next
returns-clause-next g c = λ s stands. (c.in_ok-try_next.ensures.came None).next s stands

pub returns-clause-falls : goal.returns-clause-falls
returns-clause-falls g c = (c.in_ok-try_next.ensures.came None).falls

pub returns-clause-stays : goal.returns-clause-stays
returns-clause-stays g c = (c.in_ok-try_next.ensures.came None).stays
