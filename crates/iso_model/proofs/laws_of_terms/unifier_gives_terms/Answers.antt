use Rattle.iso_model.proofs.OnTerms.SortLemmas.{unifier_gives_terms}
use Rattle.iso_model.proofs.laws_of_terms.unifier_gives_terms.Goals as goal

pub returns : goal.returns
returns c = λ a b s h p q. unifier_gives_terms h p q
