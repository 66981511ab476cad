use Rattle.iso_lint_core.proofs.OtherLemmas.{other_declared}
use Rattle.iso_lint_core.proofs.calls.indicator_step.Goals as goal

pub returns-in-Other : goal.returns-in-Other
returns-in-Other c = other_declared _ _ _ c.in-Other.ensures
