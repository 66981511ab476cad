use Rattle.iso_lint_core.proofs.OtherLemmas.{other_key}
use Rattle.iso_lint_core.proofs.keys.key_of.Goals as goal

pub returns-in-Other : goal.returns-in-Other
returns-in-Other c = other_key _ _ _ c.in-Other.ensures
