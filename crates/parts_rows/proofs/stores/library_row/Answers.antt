use Rattle.std.proofs.Common.{Some, sym, ap, ◌∙◌}
use Rattle.iso_model.specs.Search.Keys.{key}
use Rattle.parts_rows.proofs.Arities.{library_key}
use Rattle.parts_rows.proofs.stores.library_row.Goals as goal

pub returns-in-Some-Library : goal.returns-in-Some-Library
returns-in-Some-Library c = library_key (key c.as_str.result.now c.len-count.result) c.in-Some-Library.row (sym c.built_in.ensures ∙ (c.in-Some-Library.is ∙ ap Some c.in-Some-Library.field-0-is))
