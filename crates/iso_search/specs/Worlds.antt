-- What outlives a run, as the engine keeps it.
use Rattle.std.specs.Prelude.{◌≡◌, ℕ, List, Vec}
use Rattle.std.specs.Global.{Global}
use Rattle.iso_model.specs.Search.Walker.{World}
use Rattle.iso_store_core.specs.declared.stores.Store.{Ghosts}
use Rattle.iso_ops.specs.Operators.{Operator}
use Rattle.iso_ops.specs.declared.settings.Flags.{Flags}
use Rattle.iso_db.specs.Presents.{contents}
use Rattle.iso_db.specs.declared.db.Db.{Db}
use Rattle.iso_program.specs.declared.callables.Callable.{Callable}
use Rattle.iso_program.specs.Kept.{Keeping}
use Rattle.iso_program.specs.declared.clauses.Clause.{Clause}
use Rattle.iso_search_core.specs.Own.{own_of}
use Rattle.iso_search_core.specs.declared.lists.Lists as lists
use Rattle.iso_search.specs.declared.search.Search.{Search}
use Rattle.iso_program.specs.declared.vocabulary.Vocabulary.{Vocabulary}
use Rattle.iso_program.specs.Vocabularies.{IsVocabulary}
use Rattle.iso_program.specs.Callables.{Finds}
use Rattle.iso_program.specs.Keying.{AreKeyed}
use Rattle.iso_program.specs.Programs.{IsDatabase}

-- Where these are the names of the atoms, this database, operators and flags are what outlives a run, this is where
-- procedures are found, and these are the names that it knows beforehand. The database has the keys of its clauses.
pub record KeepsWorld {E : Type 0} (keeps : Keeping E) (names : List (List ℕ)) (d : Db (Clause E)) (callables : List (Vec Callable Global)) (vocabulary : Vocabulary) (ops : List Operator) (flags : Flags) (w : World) : Type 0 where
  pub database_is : IsDatabase keeps names (contents d) w.database
  pub keyed : AreKeyed d
  pub found : Finds names callables (contents d)
  pub vocabulary_is : IsVocabulary names vocabulary
  pub operators_are : ops ≡ w.operators
  pub flags_are : flags ≡ w.flags

-- the engine has them
abbrev pub IsWorld : {S L W M K P C N B O : Type 0} → Ghosts S W M → lists.Ghosts L S K P C N B O W M → Search S L W M K P C N B O → World → Type 0
IsWorld g l e w = KeepsWorld (own_of l) (g.names e.store) e.db e.callables.items e.vocabulary e.ops e.flags w
