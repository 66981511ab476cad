use Rattle.std.proofs.Common.{sym}
use Rattle.iso_lint_core.proofs.OtherLemmas.{other_body}
use Rattle.iso_lint_core.proofs.calls.body_of.Goals as goal

pub returns-in-Other : goal.returns-in-Other
returns-in-Other c = sym (other_body _ _ _ c.in-Other.ensures)
