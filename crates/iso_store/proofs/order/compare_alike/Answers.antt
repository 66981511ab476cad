use Rattle.std.proofs.Common.{sym, ◌∙◌}
use Rattle.iso_store.proofs.LeftLemmas.{cost-measures}
use Rattle.iso_store.proofs.OrderLemmas.{alike}
use Rattle.iso_store.proofs.order.compare_alike.Goals as goal

pub loop-task-smaller : goal.loop-task-smaller
loop-task-smaller g c =
    let steps = rw (sym c.in-Some.ensures.items) at c.in_ok-order.ensures.steps in
    (steps (alike _ (sym c.ne.ensures ∙ c.if-ne.false))).falls _ cost-measures
