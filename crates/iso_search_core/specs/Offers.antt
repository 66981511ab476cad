-- Rows of terms that are offered: constants and parts of atoms that a goal's arguments are unified with.
use Rattle.std.specs.Prelude.{ℕ, ◌+◌, List, map, reverse}
use Rattle.std.specs.List.{All}
use Rattle.iso_model.specs.Terms.Trees.{Tree, row}
use Rattle.iso_model.specs.Terms.Arguments.{arity}
use Rattle.iso_model.specs.Terms.Sizes.{size}
use Rattle.iso_model.specs.Search.Settlements as walker
use Rattle.iso_model.specs.Search.Settlements.{constant_offer}
use Rattle.iso_text.specs.Parts.{part_row, parts_in, IsOf, AreOf}
use Rattle.iso_lib.specs.Settlements.{offer_tree, arguments_from}
use Rattle.iso_search_core.specs.declared.offers.OfferedRow.{OfferedRow}
use Rattle.iso_search_core.specs.declared.offers.OfferedRow.TheVariants as offered
use Rattle.iso_search_core.specs.declared.offers.Offers.{Offers}
use Rattle.iso_search_core.specs.declared.offers.Offers.TheVariants as rows

-- the goal's arguments
abbrev pub goal_arguments : Tree → Tree
goal_arguments t = row (arguments_from 0 (arity t) t)

-- the row of terms that the arguments of this goal are unified with
abbrev pub row_tree : Tree → OfferedRow → Tree
row_tree t (offered.Constants offer) = offer_tree offer
row_tree t (offered.Part part) = part_row t part

-- so much is made for it: what is made for each row, and the size of constants
abbrev pub row_made : ℕ → OfferedRow → ℕ
row_made made (offered.Constants offer) = made + size (offer_tree offer)
row_made made (offered.Part part) = made

abbrev pub row_offer : ℕ → Tree → OfferedRow → walker.Offer
row_offer made t row = constant_offer (row_made made row) (row_tree t row)

-- the rows that are left, in the order in which they are tried
abbrev pub rows_in : Offers → List OfferedRow
rows_in (rows.Constants kept) = map offered.Constants (reverse kept.items)
rows_in (rows.Parts kept) = map offered.Part (parts_in kept.items)

abbrev pub rights_of : ℕ → Tree → Offers → List walker.Offer
rights_of made t offers = map (row_offer made t) (rows_in offers)

-- parts of atoms are those of this goal's
abbrev pub IsRow : Tree → OfferedRow → Type 0
IsRow t (offered.Constants offer) = Unit {0}
IsRow t (offered.Part part) = IsOf t part

abbrev pub AreRows : Tree → Offers → Type 0
AreRows t (rows.Constants kept) = Unit {0}
AreRows t (rows.Parts kept) = All (AreOf t) kept.items
