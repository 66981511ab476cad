use Rattle.std.proofs.Common.{◌++◌, ◌∙◌, ap, sym, append-nil}
use Rattle.iso_lint_core.specs.KeyViews.{keys_view}
use Rattle.iso_lint_core.proofs.OtherLemmas.{other_declared_goal}
use Rattle.iso_lint_core.proofs.calls.add_declared_by.Goals as goal

pub returns-in-Other : goal.returns-in-Other
returns-in-Other c =
    let keys = keys_view c.args.keys.now.items in
    sym (ap (λ ks. keys ++ ks) (other_declared_goal c.args.declaration.now _ _ _ c.in-Other.ensures) ∙ append-nil keys)
