use Rattle.iso_lint_core.proofs.NameLemmas.{no_names}
use Rattle.iso_lint_core.proofs.names.name_step.Goals as goal

pub returns-in-Other : goal.returns-in-Other
returns-in-Other c = no_names _ _ _ c.in-Other.ensures
