use Rattle.iso_model.proofs.OnTerms.CopyLemmas.{variables_of_copy}
use Rattle.iso_model.proofs.laws_of_copies.variables_of_copy.Goals as goal

pub returns : goal.returns
returns c = variables_of_copy
