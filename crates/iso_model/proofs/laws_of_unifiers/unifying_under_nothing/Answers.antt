use Rattle.iso_model.proofs.OnTerms.UnifierLemmas.{unifying_under_nothing}
use Rattle.iso_model.proofs.laws_of_unifiers.unifying_under_nothing.Goals as goal

pub returns : goal.returns
returns c = unifying_under_nothing
