use Rattle.iso_model.proofs.OnTerms.UnifierLemmas.{unifying_stays_below}
use Rattle.iso_model.proofs.laws_of_unifiers.unifying_stays_below.Goals as goal

pub returns : goal.returns
returns c = unifying_stays_below
