use Rattle.iso_store.proofs.UnifyLemmas.{join-equal, stands-joined, steps-joined}
use Rattle.iso_store.proofs.OrderLemmas.{order-joined}
use Rattle.iso_store.proofs.order.do_task.Goals as goal

pub join-requires-clause-equal : goal.join-requires-clause-equal
join-requires-clause-equal g c =
    let stands = rw c.in-Join.is at c.requires.stands in
    join-equal (g.S.Primitives.present c.args.store.now) c.args.tasks.now.items c.in-Join.one c.in-Join.other stands.sound

pub returns-in_ok-join-in-Join-clause-stands : goal.returns-in_ok-join-in-Join-clause-stands
returns-in_ok-join-in-Join-clause-stands g c =
    let stands = rw c.in-Join.is at c.requires.stands in
    λ equal. stands-joined _ _ _ _ _ _ _ stands c.in_ok-join-in-Join.ensures

pub returns-in_ok-join-in-Join-clause-steps : goal.returns-in_ok-join-in-Join-clause-steps
returns-in_ok-join-in-Join-clause-steps g c = λ equal. rw c.in-Join.is (steps-joined (g.S.Primitives.present c.args.store.now) c.args.tasks.now.items c.in-Join.one c.in-Join.other)

pub returns-in_ok-join-in-Join-clause-order : goal.returns-in_ok-join-in-Join-clause-order
returns-in_ok-join-in-Join-clause-order g c = rw c.in-Join.is (order-joined (g.S.Primitives.present c.args.store.now) c.args.tasks.now.items c.in-Join.one c.in-Join.other)
