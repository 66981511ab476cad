use Rattle.iso_model.proofs.Search.WorkedGroupRuns.{free_variables_are, groups_in_order, groups_of_variants, sets_are_sorted, groups_check, exists_runs}
use Rattle.iso_model.proofs.worked_groups.worked_groups.Goals as goal

pub returns-clause-free_variables : goal.returns-clause-free_variables
returns-clause-free_variables c = free_variables_are

pub returns-clause-order : goal.returns-clause-order
returns-clause-order c = groups_in_order

pub returns-clause-variants : goal.returns-clause-variants
returns-clause-variants c = groups_of_variants

pub returns-clause-sets : goal.returns-clause-sets
returns-clause-sets c = sets_are_sorted

pub returns-clause-checks : goal.returns-clause-checks
returns-clause-checks c = groups_check

pub returns-clause-exists : goal.returns-clause-exists
returns-clause-exists c = exists_runs
