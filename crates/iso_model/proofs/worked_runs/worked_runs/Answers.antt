use Rattle.iso_model.proofs.Search.WorkedAppend.{append_run}
use Rattle.iso_model.proofs.Search.WorkedJoin.{join_run}
use Rattle.iso_model.proofs.Search.WorkedRows.{endless_run}
use Rattle.iso_model.proofs.Search.WorkedRows.{equal_run}
use Rattle.iso_model.proofs.Search.WorkedRows.{equation_run}
use Rattle.iso_model.proofs.Search.WorkedRows.{facts_run}
use Rattle.iso_model.proofs.Search.WorkedRows.{number_run}
use Rattle.iso_model.proofs.Search.WorkedRows.{steps_run}
use Rattle.iso_model.proofs.Search.WorkedRows.{unknown_run}
use Rattle.iso_model.proofs.worked_runs.worked_runs.Goals as goal

pub returns-clause-endless : goal.returns-clause-endless
returns-clause-endless c = endless_run

pub returns-clause-facts : goal.returns-clause-facts
returns-clause-facts c = facts_run

pub returns-clause-equal : goal.returns-clause-equal
returns-clause-equal c = equal_run

pub returns-clause-append : goal.returns-clause-append
returns-clause-append c = append_run

pub returns-clause-equation : goal.returns-clause-equation
returns-clause-equation c = equation_run

pub returns-clause-unknown : goal.returns-clause-unknown
returns-clause-unknown c = unknown_run

pub returns-clause-uncallable : goal.returns-clause-uncallable
returns-clause-uncallable c = number_run

pub returns-clause-two_goals : goal.returns-clause-two_goals
returns-clause-two_goals c = steps_run

pub returns-clause-join : goal.returns-clause-join
returns-clause-join c = join_run
