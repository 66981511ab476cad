use Rattle.iso_model.proofs.OnTerms.UnifierLemmas.{unifying_keeps_age}
use Rattle.iso_model.proofs.laws_of_unifiers.unifying_keeps_age.Goals as goal

pub returns : goal.returns
returns c = unifying_keeps_age
