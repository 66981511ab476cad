use Rattle.iso_model.proofs.OnTerms.UnifierLemmas.{unifying_arguments}
use Rattle.iso_model.proofs.laws_of_unifiers.unifying_arguments.Goals as goal

pub returns : goal.returns
returns c = unifying_arguments
