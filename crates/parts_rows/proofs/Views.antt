-- Views that stand on.
use Rattle.std.proofs.Common.{ℕ, List, Option, None, Some, IfSome}
use Rattle.iso_db.specs.Databases.{Clause}
use Rattle.iso_db.specs.Presents.{GivesKeyed}
use Rattle.parts_rows.specs.Views.{KeepsViews}
use Rattle.iso_db.specs.declared.db.Db.{Db}
use Rattle.iso_db.specs.declared.keyed.KeyedView.{KeyedView}

pub stands : (old new : Db ℕ) (view : Option KeyedView) → KeepsViews old new → IfSome view (λ v. (cs : List (Clause ℕ)) × GivesKeyed old v cs) → IfSome view (λ v. (cs : List (Clause ℕ)) × GivesKeyed new v cs)
stands old new None keeps given = given
stands old new (Some v) keeps given = (given.0, keeps v given.0 given.1)
