-- The worked goals of bagof/3, setof/3 and ^/2.
use Rattle.std.proofs.Common.{refl}
use Rattle.iso_model.specs.Search.Walker.{step}
use Rattle.iso_model.proofs.Search.WorkedControlRuns.{walked, run_walked}
use Rattle.iso_model.specs.Worked.Groups.{FreeVariables, GroupsInOrder, GroupsOfVariants, SetsAreSorted, GroupsCheck, ExistsRunsItsGoal}

pub free_variables_are : FreeVariables
free_variables_are = (refl, refl, refl, refl, refl)

pub groups_in_order : GroupsInOrder
groups_in_order = refl

pub groups_of_variants : GroupsOfVariants
groups_of_variants = (refl, refl)

pub sets_are_sorted : SetsAreSorted
sets_are_sorted = refl

pub groups_check : GroupsCheck
unfolding step walked
groups_check = (run_walked 20 _ _ refl, run_walked 20 _ _ refl, run_walked 20 _ _ refl, run_walked 20 _ _ refl, run_walked 30 _ _ refl, run_walked 20 _ _ refl)

pub exists_runs : ExistsRunsItsGoal
unfolding step walked
exists_runs = (run_walked 20 _ _ refl, run_walked 20 _ _ refl, run_walked 20 _ _ refl)
