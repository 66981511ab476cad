use Rattle.iso_model.proofs.OnTerms.UnifierLemmas.{unifier_concerns}
use Rattle.iso_model.proofs.laws_of_unifiers.unifier_concerns_its_terms.Goals as goal

pub returns : goal.returns
returns c = λ a b s h. unifier_concerns h
