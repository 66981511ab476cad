-- The parts of procedures: of each its clauses with the same key, and those without.
use Rattle.std.specs.Prelude.{◌≡◌, ◌≢◌, ◌⊎◌, ◌++◌, ◌∷◌, [], ℕ, List, Option, Some, None, length, get_or}
use Rattle.std.specs.List.{slice_get}
use Rattle.iso_clauses.specs.Blocks.{Kept, nothing_kept}
use Rattle.iso_clauses.specs.Slots.{label_at, part_of}
use Rattle.iso_clauses.specs.Kept.{IsKept}
use Rattle.iso_db.specs.declared.parts.Part.{Part}
use Rattle.iso_clauses.specs.declared.slots.Label.{Label}
use Rattle.iso_clauses.specs.declared.slots.Slot.{Slot}

-- a part was there, or it came behind the others with an empty list
abbrev pub Opens : Part → List Part → List Kept → List Part → List Kept → Type 0
Opens part parts lists wider longer =
    ((wider ≡ parts) × (longer ≡ lists)) ⊎ ((wider ≡ parts ++ part ∷ []) × (longer ≡ lists ++ nothing_kept ∷ []) × ((n : ℕ) → slice_get parts n ≢ Some part))

-- At the place of each procedure stands the number of its part without a key, and no number where it has none.
pub record IsNumbered (numbers : List (Option ℕ)) (parts : List Part) : Type 0 where
  pub each : (place n : ℕ) → slice_get parts n ≡ Some (record { place = place; key = None }) → get_or numbers place None ≡ Some n
  pub no_other : (place n : ℕ) → get_or numbers place None ≡ Some n → slice_get parts n ≡ Some (record { place = place; key = None })

module _ {C : Type 0} where
  -- What holds of the parts of procedures as they are kept, each with its list of clauses.
  pub record IsIndexed (slots : List (Slot C)) (removals : ℕ) (parts : List Part) (lists : List Kept) : Type 0 where
    pub kept : IsKept part_of slots removals (length parts) lists
    -- a clause's part is that of its procedure with its key
    pub inside : (n : ℕ) (l : Label) → label_at slots n ≡ Some l → slice_get parts l.part ≡ Some (record { place = l.procedure; key = l.key })
    -- no part is there twice
    pub once : (i j : ℕ) (p : Part) → slice_get parts i ≡ Some p → slice_get parts j ≡ Some p → i ≡ j
