-- The procedures as they are kept: a heading for each, and the list of its clauses.
use Rattle.std.specs.Prelude.{ℕ, List, [], ◌∷◌}
use Rattle.iso_clauses.specs.Blocks.{Kept, ids}
use Rattle.iso_clauses.specs.Slots.{given}
use Rattle.iso_clauses.specs.declared.slots.Slot.{Slot}
use Rattle.iso_db.specs.Keys.{Heading}
use Rattle.iso_db.specs.Databases.{Procedure}

module _ {C : Type 0} where
  -- a procedure as it is kept
  abbrev pub shown_by : List (Slot C) → ℕ → Heading → Kept → Procedure C
  shown_by slots removals h e = record { key = h.key; kind = h.kind; clauses = given slots removals (ids e.current) }

  -- the procedures as they are kept
  abbrev pub shown : List (Slot C) → ℕ → List Heading → List Kept → List (Procedure C)
  shown slots removals [] entries = []
  shown slots removals (h ∷ hs) [] = []
  shown slots removals (h ∷ hs) (e ∷ es) = shown_by slots removals h e ∷ shown slots removals hs es
