-- Views that stand on while a database changes.
use Rattle.std.specs.Prelude.{ℕ, List}
use Rattle.iso_db.specs.Databases.{Clause}
use Rattle.iso_db.specs.Presents.{GivesKeyed}
use Rattle.iso_db.specs.declared.db.Db.{Db}
use Rattle.iso_db.specs.declared.keyed.KeyedView.{KeyedView}

-- each view gives what it gave
abbrev pub KeepsViews : Db ℕ → Db ℕ → Type 0
KeepsViews old new = (v : KeyedView) (cs : List (Clause ℕ)) → GivesKeyed old v cs → GivesKeyed new v cs
