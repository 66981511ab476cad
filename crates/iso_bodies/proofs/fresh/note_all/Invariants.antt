-- The operands so far were noted.
use Rattle.std.proofs.Common.{take}
use Rattle.iso_bodies.specs.Notes.{Notes}
use Rattle.iso_bodies.proofs.fresh.note_all.Given as goal

abbrev pub invariant-loop-operand : goal.invariant-loop-operand
invariant-loop-operand l = Notes (take l.operand-index l.operands) l.fn.met.items l.met.items
