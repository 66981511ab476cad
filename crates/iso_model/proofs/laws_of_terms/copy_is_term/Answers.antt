use Rattle.iso_model.proofs.OnTerms.SortLemmas.{copy_is_term}
use Rattle.iso_model.proofs.laws_of_terms.copy_is_term.Goals as goal

pub returns : goal.returns
returns c = copy_is_term
