use Rattle.iso_model.proofs.OnTerms.SortLemmas.{unifying_gives_terms}
use Rattle.iso_model.proofs.laws_of_terms.unifying_gives_terms.Goals as goal

pub returns : goal.returns
returns c = unifying_gives_terms
