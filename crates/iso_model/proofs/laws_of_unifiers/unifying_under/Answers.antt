use Rattle.iso_model.proofs.OnTerms.UnifierLemmas.{unifying_under}
use Rattle.iso_model.proofs.laws_of_unifiers.unifying_under.Goals as goal

pub returns : goal.returns
returns c = unifying_under
