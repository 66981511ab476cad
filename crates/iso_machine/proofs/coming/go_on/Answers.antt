use Rattle.iso_machine.proofs.coming.go_on.Goals as goal

pub returns-in-Some-clause-behind : goal.returns-in-Some-clause-behind
returns-in-Some-clause-behind g c = λ p ms list.
    let comes = rw c.in-Some.is at c.code_from.ensures in
    (comes.first p ms list, comes.pending)

pub returns-in-Some-clause-cost : goal.returns-in-Some-clause-cost
returns-in-Some-clause-cost g c = (rw c.in-Some.is at c.code_from.ensures).cost
