-- What is left to be forgotten, and what was forgotten, are all.
use Rattle.std.proofs.Common.{◌≡◌, drop}
use Rattle.iso_compile.specs.Emitting.{without_voids}
use Rattle.iso_compile.specs.Expressions.{step_parts}
use Rattle.iso_compile.proofs.expressions.forget_steps.Given as goal

abbrev pub invariant-loop-step : goal.invariant-loop-step
invariant-loop-step l = without_voids l.met.items (step_parts (drop l.step-index l.steps)) ≡ without_voids l.fn.met.items (step_parts l.steps)
