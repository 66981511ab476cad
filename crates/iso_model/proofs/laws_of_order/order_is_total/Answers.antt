use Rattle.iso_model.proofs.OnTerms.OrderLemmas.{term_cmp_total}
use Rattle.iso_model.proofs.laws_of_order.order_is_total.Goals as goal

pub returns : goal.returns
returns c = term_cmp_total
