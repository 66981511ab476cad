use Rattle.std.proofs.Common.{ap, sym, ◌∙◌}
use Rattle.iso_machine.specs.Outcomes.{gone}
use Rattle.iso_machine.proofs.outcomes.behind_others.Goals as goal

pub returns-in-Ok : goal.returns-in-Ok
returns-in-Ok c = c.next_behind.ensures ∙ ap gone (sym c.in-Ok.is)

pub returns-in-Err : goal.returns-in-Err
returns-in-Err c = ap gone (sym c.in-Err.is)
