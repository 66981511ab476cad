use Rattle.iso_machine.proofs.coming.look_ahead.Goals as goal

pub returns-in-Some-clause-behind : goal.returns-in-Some-clause-behind
returns-in-Some-clause-behind g c = λ p ms list.
    (rw c.in-Some.is at (c.at.ensures.first p ms list), rw c.in-Some.is at c.at.ensures.pending)

pub returns-in-Some-clause-cost : goal.returns-in-Some-clause-cost
returns-in-Some-clause-cost g c = rw c.in-Some.is at c.at.ensures.cost

pub returns-in-None-clause-behind : goal.returns-in-None-clause-behind
returns-in-None-clause-behind g c = λ p ms list. rw c.in-None.is at (c.at.ensures.first p ms list)

pub returns-in-None-clause-cost : goal.returns-in-None-clause-cost
returns-in-None-clause-cost g c = rw c.in-None.is at c.at.ensures.cost
