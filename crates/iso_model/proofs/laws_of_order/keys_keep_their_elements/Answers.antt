use Rattle.iso_model.proofs.OnTerms.SortingLemmas.{keys_keep_elements}
use Rattle.iso_model.proofs.laws_of_order.keys_keep_their_elements.Goals as goal

pub returns : goal.returns
returns c = keys_keep_elements
