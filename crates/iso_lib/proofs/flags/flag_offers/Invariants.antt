-- The first flags have their rows.
use Rattle.std.proofs.Common.{◌≡◌, length, map, take}
use Rattle.std.specs.List.{All}
use Rattle.iso_ops.specs.Settings.{entry_of_flag}
use Rattle.iso_model.specs.Search.Settings.{flag_row}
use Rattle.iso_lib.specs.Settlements.{offer_tree}
use Rattle.iso_lib.proofs.flags.flag_offers.Given as goal

abbrev pub invariant-loop-flag : goal.invariant-loop-flag
invariant-loop-flag l = record {
  rows : map offer_tree l.offers.items ≡ map (λ e. flag_row (entry_of_flag e)) (take l.flag-index l.flag-items);
  lengths : All (λ offer. length offer.constants.items ≡ 2) l.offers.items;
}
