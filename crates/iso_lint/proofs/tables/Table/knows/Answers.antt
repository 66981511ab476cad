use Rattle.std.proofs.Common.{◌∙◌, ◌||◌, ap, sym}
use Rattle.std.specs.List.{list_any}
use Rattle.iso_model.specs.Search.Keys as model
use Rattle.iso_lint_core.specs.KeyViews.{key_view}
use Rattle.iso_lint.proofs.tables.Table.knows.Goals as goal

pub returns-else-is_built_in : goal.returns-else-is_built_in
returns-else-is_built_in c = λ known table.
    c.contains_key.ensures ∙ table.has c.args.key ∙ ap (λ b. b || list_any (λ j. model.same_key j (key_view c.args.key)) known) (sym c.if-is_built_in.false ∙ c.is_built_in.ensures)
