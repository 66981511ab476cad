use Rattle.iso_model.proofs.OnTerms.UnifierLemmas.{unifier_is_substitution}
use Rattle.iso_model.proofs.laws_of_unifiers.unifier_is_substitution.Goals as goal

pub returns : goal.returns
returns c = λ a b s h. unifier_is_substitution h
