-- What has been given so far is a plan of the variables so far.
use Rattle.std.proofs.Common.{◌+◌, ◌≤◌}
use Rattle.iso_alloc.specs.Plans.{IsPlan}
use Rattle.iso_alloc.proofs.plans.assign.Given as goal

abbrev pub invariant-loop-variable : goal.invariant-loop-variable
invariant-loop-variable l =
    IsPlan l.plan (record l.prepared { variables = l.variable })
    × (l.plan.slots ≤ l.variable)
    × (l.plan.registers ≤ l.initial.plan.registers + l.variable)
