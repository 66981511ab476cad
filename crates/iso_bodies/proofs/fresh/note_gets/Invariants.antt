-- The gets so far were noted.
use Rattle.std.proofs.Common.{map, take}
use Rattle.iso_code.specs.Loaded.{operand_got}
use Rattle.iso_bodies.specs.Notes.{Notes}
use Rattle.iso_bodies.proofs.fresh.note_gets.Given as goal

abbrev pub invariant-loop-get : goal.invariant-loop-get
invariant-loop-get l = Notes (map operand_got (take l.get-index l.gets)) l.fn.met.items l.met.items
