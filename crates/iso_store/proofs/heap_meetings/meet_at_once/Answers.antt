use Rattle.iso_store.proofs.heap_meetings.meet_at_once.Goals as goal

pub returns-in-Var-clause-met : goal.returns-in-Var-clause-met
returns-in-Var-clause-met c = rw c.in-Var.is c.meet_variable.ensures.met
