use Rattle.iso_model.proofs.OnTerms.UniqueUnifiers.{unifier_unique}
use Rattle.iso_model.proofs.laws_of_unifiers.at_most_one_unifier.Goals as goal

pub returns : goal.returns
returns c = unifier_unique
