use Rattle.iso_model.proofs.OnTerms.MeaningLemmas.{meaning_is_term}
use Rattle.iso_model.proofs.laws_of_terms.meaning_is_term.Goals as goal

pub returns : goal.returns
returns c = meaning_is_term
