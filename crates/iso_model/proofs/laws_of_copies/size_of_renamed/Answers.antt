use Rattle.iso_model.proofs.OnTerms.CopyLemmas.{size_of_renamed}
use Rattle.iso_model.proofs.laws_of_copies.size_of_renamed.Goals as goal

pub returns : goal.returns
returns c = size_of_renamed
