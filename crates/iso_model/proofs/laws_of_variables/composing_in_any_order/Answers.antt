use Rattle.iso_model.proofs.OnTerms.UnifierLemmas.{compose_compose}
use Rattle.iso_model.proofs.laws_of_variables.composing_in_any_order.Goals as goal

pub returns : goal.returns
returns c = compose_compose
