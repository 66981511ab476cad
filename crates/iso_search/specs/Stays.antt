-- What a move of the engine leaves as it was.
use Rattle.std.specs.Prelude.{◌≡◌}
use Rattle.iso_store_core.specs.Presents.{Present}
use Rattle.iso_store_core.specs.declared.stores.Store.{Ghosts}
use Rattle.iso_atoms.specs.Texts.{KeepsTexts}
use Rattle.iso_search.specs.declared.search.Search.{Search}
use Rattle.iso_search.specs.Limits.{IsWithin}

-- The limit of choices and the names that it knows beforehand are as they were, atoms keep their names, the mark of the
-- empty store stands for what it stood for, and no more choices stand than there may be.
pub record Stays {S L W M K P C N B O : Type 0} (g : Ghosts S W M) (old new : Search S L W M K P C N B O) : Type 0 where
  pub limit : new.limit ≡ old.limit
  pub vocabulary : new.vocabulary ≡ old.vocabulary
  pub names_kept : KeepsTexts (g.names old.store) (g.names new.store)
  pub base : (p : Present W) → g.stands old.store old.base p → g.stands new.store new.base p
  pub within : IsWithin old → IsWithin new
