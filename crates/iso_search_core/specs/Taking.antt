-- A row is taken from those that are left at a choice.
use Rattle.std.specs.Prelude.{◌≡◌, ◌==◌, ℕ, List, ◌∷◌, length, Option, Some, Bool, slice_set}
use Rattle.iso_model.specs.Terms.Trees.{Tree}
use Rattle.iso_search_core.specs.Offers.{rows_in, AreRows, IsRow}
use Rattle.iso_search_core.specs.declared.offers.Offers.{Offers}
use Rattle.iso_search_core.specs.declared.offers.OfferedRow.{OfferedRow}
use Rattle.iso_search_core.specs.declared.choices.Left.TheVariants as left
use Rattle.iso_search_core.specs.declared.choices.Choice as kept

-- The first row was taken at the choice at this place, at which this goal's arguments are to be unified with rows;
-- and whether it was the last one.
pub record TakesOffer {W M K P C : Type 0} (c : kept.Choice W M K P C) (goal : W) (offers : Offers) (place : ℕ) (old new : List (kept.Choice W M K P C)) (result : Option (OfferedRow × Bool)) : Type 0 where
  pub row : OfferedRow
  pub others : Offers
  pub is : result ≡ Some (row, length (rows_in others) == 0)
  pub are : rows_in offers ≡ row ∷ rows_in others
  pub each : (t : Tree) → AreRows t offers → AreRows t others × IsRow t row
  pub changed : new ≡ slice_set old place (record c { left = left.Offered goal others })
