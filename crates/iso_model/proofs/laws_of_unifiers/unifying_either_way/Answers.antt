use Rattle.iso_model.proofs.OnTerms.UnifierLemmas.{unifying_either_way}
use Rattle.iso_model.proofs.laws_of_unifiers.unifying_either_way.Goals as goal

pub returns : goal.returns
returns c = unifying_either_way
