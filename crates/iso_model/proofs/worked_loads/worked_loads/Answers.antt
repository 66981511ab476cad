use Rattle.iso_model.proofs.Search.WorkedGrowth.{growth_load}
use Rattle.iso_model.proofs.Search.WorkedLoadRuns.{true_load, atoms_load, facts_load, ball_load, findall_load, retractall_load, negation_load}
use Rattle.iso_model.proofs.worked_loads.worked_loads.Goals as goal

pub returns-clause-one_goal : goal.returns-clause-one_goal
returns-clause-one_goal c = true_load

pub returns-clause-atoms : goal.returns-clause-atoms
returns-clause-atoms c = atoms_load

pub returns-clause-facts : goal.returns-clause-facts
returns-clause-facts c = facts_load

pub returns-clause-growth : goal.returns-clause-growth
returns-clause-growth c = growth_load

pub returns-clause-ball : goal.returns-clause-ball
returns-clause-ball c = ball_load

pub returns-clause-list : goal.returns-clause-list
returns-clause-list c = findall_load

pub returns-clause-heads : goal.returns-clause-heads
returns-clause-heads c = retractall_load

pub returns-clause-negation : goal.returns-clause-negation
returns-clause-negation c = negation_load
