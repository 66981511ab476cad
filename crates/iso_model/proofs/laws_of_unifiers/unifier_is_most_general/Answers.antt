use Rattle.iso_model.proofs.OnTerms.UnifierLemmas.{most_general_composed}
use Rattle.iso_model.proofs.laws_of_unifiers.unifier_is_most_general.Goals as goal

pub returns : goal.returns
returns c = λ a b s t h e. most_general_composed t h e
