use Rattle.std.proofs.Common.{◌∙◌, ℕ, ◌==◌, ap}
use Rattle.iso_search_core.proofs.OfferLemmas.{parts_empty, constants_empty}
use Rattle.iso_search_core.proofs.offers.Offers.is_empty.Goals as goal

pub returns-in-Constants : goal.returns-in-Constants
returns-in-Constants c = rw c.in-Constants.is (c.is_empty.ensures ∙ (ap (λ (n : ℕ). n == 0) c.in-Constants.kept.ok.0 ∙ constants_empty c.in-Constants.kept.items))

pub returns-in-Parts : goal.returns-in-Parts
returns-in-Parts c = rw c.in-Parts.is (c.is_empty-in-Parts.ensures ∙ (ap (λ (n : ℕ). n == 0) c.in-Parts.kept.ok.0 ∙ parts_empty c.in-Parts.kept.items))
