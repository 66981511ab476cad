-- Compounds and control constructs over the words of a store.
use Rattle.std.specs.Prelude.{◌≡◌, ℕ, List, map, true}
use Rattle.iso_atoms.specs.Texts.{text_at}
use Rattle.iso_model.specs.Terms.Trees.{Tree, Apply, row}
use Rattle.iso_model.specs.Search.Bodies.{two}
use Rattle.iso_prep.specs.Connectives.{text_of}
use Rattle.iso_store_core.specs.Presents.{Present, meaning}
use Rattle.iso_search_core.specs.declared.callable_goals.Construct.{Construct}

-- Words stand for terms in this store.
module _ {W : Type 0} (q : Present W) where
  -- the compound of this name and of the terms that the words stand for, where these are the names of the atoms
  abbrev pub compound_of : List (List ℕ) → ℕ → List W → Tree
  compound_of names name words = Apply (text_at names name) (row (map (meaning q) words))

  -- The term is this control construct of two parts.
  pub record IsConstruct (t : Tree) (c : Construct W) : Type 0 where
    pub is : t ≡ two (text_of c.connective) (meaning q c.first) (meaning q c.second)
    pub first : q.holds c.first ≡ true
    pub second : q.holds c.second ≡ true
