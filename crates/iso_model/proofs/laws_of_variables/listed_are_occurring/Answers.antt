use Rattle.iso_model.proofs.OnTerms.VariableLemmas.{listed_occurring}
use Rattle.iso_model.proofs.laws_of_variables.listed_are_occurring.Goals as goal

pub returns : goal.returns
returns c = listed_occurring
