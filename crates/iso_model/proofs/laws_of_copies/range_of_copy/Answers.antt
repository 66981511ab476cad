use Rattle.iso_model.proofs.OnTerms.CopyLemmas.{range_of_copy}
use Rattle.iso_model.proofs.laws_of_copies.range_of_copy.Goals as goal

pub returns : goal.returns
returns c = range_of_copy
