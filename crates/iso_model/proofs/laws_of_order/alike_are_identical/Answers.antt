use Rattle.iso_model.proofs.OnTerms.OrderLemmas.{alike_identical}
use Rattle.iso_model.proofs.laws_of_order.alike_are_identical.Goals as goal

pub returns : goal.returns
returns c = alike_identical
