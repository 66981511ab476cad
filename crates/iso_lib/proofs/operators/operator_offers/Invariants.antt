-- The first operators have their rows.
use Rattle.std.proofs.Common.{◌≡◌, length, map, take}
use Rattle.std.specs.List.{All}
use Rattle.iso_model.specs.Search.Settings.{operator_row}
use Rattle.iso_lib.specs.Settlements.{offer_tree}
use Rattle.iso_lib.proofs.operators.operator_offers.Given as goal

abbrev pub invariant-loop-place : goal.invariant-loop-place
invariant-loop-place l = record {
  rows : map offer_tree l.offers.items ≡ map operator_row (take l.place l.ops);
  lengths : All (λ offer. length offer.constants.items ≡ 3) l.offers.items;
}
