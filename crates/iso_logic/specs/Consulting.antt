-- The database that a text of clauses makes.
use Rattle.std.specs.Prelude.{◌≡◌, List, [], ◌∷◌}
use Rattle.iso_model.specs.Terms.Trees.{Tree}
use Rattle.iso_model.specs.Search.Databases.{Database}
use Rattle.iso_model.specs.Search.Additions.{Adds, consulted}

-- The clauses are added in their order to the first database, none of them is refused, and the second database is the
-- one behind them.
pub data Consulted : List Tree → Database → Database → Type 0 where
  no_more : {db : Database} → Consulted [] db db
  adds : {t : Tree} {ts : List Tree} {db after last : Database} → consulted t db ≡ Adds after → Consulted ts after last → Consulted (t ∷ ts) db last
