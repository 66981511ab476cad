use Rattle.std.proofs.Common.{sym}
use Rattle.iso_model.specs.Terms.Unification.Applied.{apply_apply}
use Rattle.iso_model.proofs.laws_of_variables.composed_applies.Goals as goal

pub returns : goal.returns
returns c = λ s t u. sym (apply_apply s t u)
