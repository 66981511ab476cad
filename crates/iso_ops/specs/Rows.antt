-- The operators of the rows of the initial table.
use Rattle.std.specs.Prelude.{List, map}
use Rattle.std.specs.List.{flat_map}
use Rattle.iso_ops.specs.declared.initial.Row.{Row}
use Rattle.iso_ops.specs.Entries.{text_of}
use Rattle.iso_ops.specs.InitialOperators.{row_of}
use Rattle.iso_ops.specs.Operators.{Operator}

abbrev pub operators_of : List Row → List Operator
operators_of rows = flat_map (λ row. row_of row.0 row.1 (map text_of row.2.now)) rows
