use Rattle.iso_model.proofs.OnTerms.VariableLemmas.{variables_of_image}
use Rattle.iso_model.proofs.laws_of_variables.variables_of_image.Goals as goal

pub returns : goal.returns
returns c = variables_of_image
