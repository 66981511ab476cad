use Rattle.iso_model.proofs.OnTerms.UnifierLemmas.{unifying_in_turn}
use Rattle.iso_model.proofs.laws_of_unifiers.unifying_in_turn.Goals as goal

pub returns : goal.returns
returns c = unifying_in_turn
