-- None of the steps so far takes it.
use Rattle.std.proofs.Common.{◌≡◌, drop}
use Rattle.iso_compile.specs.Expressions.{step_parts}
use Rattle.iso_compile.specs.Births.{has}
use Rattle.iso_compile.proofs.births.has_variable.Given as goal

abbrev pub invariant-loop-step : goal.invariant-loop-step
invariant-loop-step l = has l.variable (step_parts (drop l.step-index l.steps)) ≡ has l.variable (step_parts l.steps)
