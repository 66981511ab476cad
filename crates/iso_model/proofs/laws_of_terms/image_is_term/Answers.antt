use Rattle.iso_model.proofs.OnTerms.SortLemmas.{term_applied}
use Rattle.iso_model.proofs.laws_of_terms.image_is_term.Goals as goal

pub returns : goal.returns
returns c = term_applied
