use Rattle.iso_compile.proofs.ExpressionLemmas.{evaluated}
use Rattle.iso_compile.proofs.laws_of_code.expressions_are_evaluated.Goals as goal

pub returns : goal.returns
returns c = evaluated
