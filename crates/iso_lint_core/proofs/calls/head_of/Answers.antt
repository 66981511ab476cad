use Rattle.iso_lint_core.proofs.OtherLemmas.{other_head}
use Rattle.iso_lint_core.proofs.calls.head_of.Goals as goal

pub returns-in-Other : goal.returns-in-Other
returns-in-Other c = other_head _ _ _ c.in-Other.ensures
