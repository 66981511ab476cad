-- What placing a goal makes of a store and of the lists.
use Rattle.std.specs.Prelude.{◌≡◌, Some}
use Rattle.iso_model.specs.Terms.Trees.{Tree}
use Rattle.iso_model.specs.Search.Bodies.{Body, map_body, converted}
use Rattle.iso_store_core.specs.Presents.{Present, KeepsWords}

module _ {W L B : Type 0} (body : Present W → L → B → Body → Type 0) where
  -- A body was placed whose goals have the values that those of b are; no binding changed.
  pub record PlacesBody (p q : Present W) (lists : L) (b : Body) (place : B) : Type 0 where
    pub words : KeepsWords p q
    pub substitution : q.substitution ≡ p.substitution
    pub next : q.next ≡ p.next
    pub own : Body
    pub stands : body q lists place own
    pub values : map_body p.substitution own ≡ b

  -- The goal's body was placed.
  abbrev pub IsConverted : Present W → Present W → L → Tree → B → Type 0
  IsConverted p q lists goal place = (b : Body) × (converted goal ≡ Some b) × PlacesBody p q lists b place
