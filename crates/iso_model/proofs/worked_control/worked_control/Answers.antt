use Rattle.iso_model.proofs.Search.WorkedControlRuns.{added_run, catch_run, left_run, findall_run, halt_run}
use Rattle.iso_model.proofs.Search.WorkedControlRuns.{checked_run}
use Rattle.iso_model.proofs.Search.WorkedControlRuns.{condition_run}
use Rattle.iso_model.proofs.Search.WorkedControlRuns.{cut_run}
use Rattle.iso_model.proofs.Search.WorkedControlRuns.{local_run}
use Rattle.iso_model.proofs.Search.WorkedControlRuns.{negation_run}
use Rattle.iso_model.proofs.Search.WorkedControlRuns.{once_run}
use Rattle.iso_model.proofs.Search.WorkedControlRuns.{repeat_run}
use Rattle.iso_model.proofs.Search.WorkedControlRuns.{then_run}
use Rattle.iso_model.proofs.Search.WorkedControlRuns.{through_run}
use Rattle.iso_model.proofs.worked_control.worked_control.Goals as goal

pub returns-clause-cut : goal.returns-clause-cut
returns-clause-cut c = cut_run

pub returns-clause-cut_in_call : goal.returns-clause-cut_in_call
returns-clause-cut_in_call c = local_run

pub returns-clause-cut_in_conjunction : goal.returns-clause-cut_in_conjunction
returns-clause-cut_in_conjunction c = through_run

pub returns-clause-cut_in_condition : goal.returns-clause-cut_in_condition
returns-clause-cut_in_condition c = then_run

pub returns-clause-conditions : goal.returns-clause-conditions
returns-clause-conditions c = condition_run

pub returns-clause-negation : goal.returns-clause-negation
returns-clause-negation c = negation_run

pub returns-clause-once : goal.returns-clause-once
returns-clause-once c = once_run

pub returns-clause-repeat : goal.returns-clause-repeat
returns-clause-repeat c = repeat_run

pub returns-clause-goal_errors : goal.returns-clause-goal_errors
returns-clause-goal_errors c = checked_run

pub returns-clause-added_arguments : goal.returns-clause-added_arguments
returns-clause-added_arguments c = added_run

pub returns-clause-catch : goal.returns-clause-catch
returns-clause-catch c = catch_run

pub returns-clause-left_catch : goal.returns-clause-left_catch
returns-clause-left_catch c = left_run

pub returns-clause-findall_errors : goal.returns-clause-findall_errors
returns-clause-findall_errors c = findall_run

pub returns-clause-halt : goal.returns-clause-halt
returns-clause-halt c = halt_run
