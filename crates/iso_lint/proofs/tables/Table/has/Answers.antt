use Rattle.std.proofs.Common.{◌∙◌}
use Rattle.iso_lint.proofs.tables.Table.has.Goals as goal

pub returns : goal.returns
returns c = λ known table. c.contains_key.ensures ∙ table.has c.args.key
