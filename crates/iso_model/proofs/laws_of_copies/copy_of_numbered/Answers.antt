use Rattle.iso_model.proofs.OnTerms.CopyLemmas.{copy_of_numbered}
use Rattle.iso_model.proofs.laws_of_copies.copy_of_numbered.Goals as goal

pub returns : goal.returns
returns c = copy_of_numbered
