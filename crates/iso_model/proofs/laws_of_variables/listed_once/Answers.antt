use Rattle.iso_model.proofs.OnTerms.VariableLemmas.{listed_once}
use Rattle.iso_model.proofs.laws_of_variables.listed_once.Goals as goal

pub returns : goal.returns
returns c = listed_once
