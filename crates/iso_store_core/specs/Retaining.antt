-- What a call on a store leaves as it was, and how many cells it takes.
use Rattle.std.specs.Prelude.{◌≡◌, ◌≤◌, ℕ}
use Rattle.iso_atoms.specs.Texts.{KeepsTexts}
use Rattle.iso_model.specs.Terms.Trees.{Tree}
use Rattle.iso_model.specs.Terms.Sizes.{size}
use Rattle.iso_store_core.specs.Presents.{Grows, KeepsMarks}
use Rattle.iso_store_core.specs.declared.stores.Store.{Ghosts}

module _ {S W M : Type 0} (g : Ghosts S W M) where
  -- Atoms keep their names, and marks stand for what they stood for.
  pub record Retains (old new : S) : Type 0 where
    pub names : KeepsTexts (g.names old) (g.names new)
    pub marks : KeepsMarks (g.stands old) (g.stands new)

  -- The same, and no atom came.
  pub record RetainsAll (old new : S) : Type 0 where
    pub names : g.names new ≡ g.names old
    pub marks : KeepsMarks (g.stands old) (g.stands new)

  -- The store is counted in cells: an atom or an integer of 64 bits takes none, and a copy at most the size of its term.
  pub record CountsCells : Type 0 where
    pub atomic : g.atomic_cells ≡ 0
    pub built : (t : Tree) → g.built_cells t ≤ size t

  -- In a store that is counted in cells at most so many were made, at most so many of them variables.
  pub record Takes (old new : S) (made : ℕ) : Type 0 where
    pub grows : CountsCells → Grows (g.present old) (g.present new) made made
