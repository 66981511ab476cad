-- What is left to be forgotten, and what was forgotten, are all.
use Rattle.std.proofs.Common.{◌≡◌, drop}
use Rattle.iso_compile.specs.Emitting.{without_voids}
use Rattle.iso_compile.proofs.goals.forget.Given as goal

abbrev pub invariant-loop-part : goal.invariant-loop-part
invariant-loop-part l = without_voids l.met.items (drop l.part-index l.parts) ≡ without_voids l.fn.met.items l.parts
