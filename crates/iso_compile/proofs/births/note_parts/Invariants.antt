-- What is left to be noted, and what was noted, are all.
use Rattle.std.proofs.Common.{◌≡◌, drop}
use Rattle.iso_compile.specs.Births.{with_parts}
use Rattle.iso_compile.proofs.births.note_parts.Given as goal

abbrev pub invariant-loop-part : goal.invariant-loop-part
invariant-loop-part l = with_parts l.address (drop l.part-index l.parts) l.spans.items ≡ with_parts l.address l.parts l.fn.spans.items
