use Rattle.iso_model.proofs.OnTerms.VariableLemmas.{images_agree}
use Rattle.iso_model.proofs.laws_of_variables.images_agree.Goals as goal

pub returns : goal.returns
returns c = images_agree
