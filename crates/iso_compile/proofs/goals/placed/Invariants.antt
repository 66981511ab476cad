-- What was noted and what is left are all places.
use Rattle.std.proofs.Common.{◌≡◌, ◌++◌, map, drop}
use Rattle.iso_compile.specs.Emitting.{is_placed}
use Rattle.iso_compile.proofs.goals.placed.Given as goal

abbrev pub invariant-loop-variable : goal.invariant-loop-variable
invariant-loop-variable l = l.list.items ++ map is_placed (drop l.variable l.plan.places) ≡ map is_placed l.plan.places
