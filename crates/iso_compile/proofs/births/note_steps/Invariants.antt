-- What is left to be noted, and what was noted, are all.
use Rattle.std.proofs.Common.{◌≡◌, drop}
use Rattle.iso_compile.specs.Births.{with_parts}
use Rattle.iso_compile.specs.Expressions.{step_parts}
use Rattle.iso_compile.proofs.births.note_steps.Given as goal

abbrev pub invariant-loop-step : goal.invariant-loop-step
invariant-loop-step l = with_parts l.address (step_parts (drop l.step-index l.steps)) l.spans.items ≡ with_parts l.address (step_parts l.steps) l.fn.spans.items
