use Rattle.iso_model.proofs.OnTerms.CopyLemmas.{copy_from_zero}
use Rattle.iso_model.proofs.laws_of_copies.copy_from_zero.Goals as goal

pub returns : goal.returns
returns c = copy_from_zero
