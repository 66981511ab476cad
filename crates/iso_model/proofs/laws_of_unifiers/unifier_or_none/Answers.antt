use Rattle.iso_model.specs.Terms.Unification.{unifier_of_is}
use Rattle.iso_model.proofs.laws_of_unifiers.unifier_or_none.Goals as goal

pub returns : goal.returns
returns c = unifier_of_is
