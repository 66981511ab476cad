use Rattle.iso_model.specs.Terms.Unification.Composed.{never_occurs}
use Rattle.iso_model.proofs.laws_of_unifiers.no_unifier_inside.Goals as goal

pub returns : goal.returns
returns c = never_occurs
