-- The built-ins as the code lists them.
use Rattle.std.specs.Prelude.{List, [], ◌∷◌}
use Rattle.iso_model.specs.Search.Keys.{Key, key}
use Rattle.iso_model.specs.declared.built_ins.BuiltIn.{BuiltIn}
use Rattle.iso_model.specs.declared.built_ins.Row.{Row}

-- each with its key
abbrev pub entries_of : List Row → List (Key × BuiltIn)
entries_of [] = []
entries_of (r ∷ rs) = (key r.0.now r.1, r.2) ∷ entries_of rs
