use Rattle.iso_lint_core.proofs.SettingLemmas.{other_goal}
use Rattle.iso_lint_core.proofs.settings.Settings.set_by_goal.Goals as goal

pub returns-in-Other : goal.returns-in-Other
returns-in-Other c = other_goal _ _ _ c.args.self.now c.in-Other.ensures
