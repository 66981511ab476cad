use Rattle.iso_model.proofs.OnTerms.SortingLemmas.{keys_never_descend}
use Rattle.iso_model.proofs.laws_of_order.keys_never_descend.Goals as goal

pub returns : goal.returns
returns c = keys_never_descend
