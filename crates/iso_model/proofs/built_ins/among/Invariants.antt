-- None of the rows so far has this name and arity.
use Rattle.std.proofs.Common.{◌≡◌, drop}
use Rattle.iso_model.specs.Search.BuiltIns.{built_in_among}
use Rattle.iso_model.specs.Search.Keys.{key}
use Rattle.iso_model.specs.Search.Rows.{entries_of}
use Rattle.iso_model.proofs.built_ins.among.Given as goal

abbrev pub invariant-loop-row : goal.invariant-loop-row
invariant-loop-row l = built_in_among (entries_of l.rows) (key l.name l.arity) ≡ built_in_among (entries_of (drop l.row-index l.rows)) (key l.name l.arity)
