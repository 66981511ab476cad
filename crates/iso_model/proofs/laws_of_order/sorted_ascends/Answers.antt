use Rattle.iso_model.proofs.OnTerms.SortingLemmas.{sorted_ascends}
use Rattle.iso_model.proofs.laws_of_order.sorted_ascends.Goals as goal

pub returns : goal.returns
returns c = sorted_ascends
