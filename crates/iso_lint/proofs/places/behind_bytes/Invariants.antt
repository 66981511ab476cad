-- The place is that behind the bytes so far.
use Rattle.std.proofs.Common.{◌≡◌, ◌≤◌, ◌+◌, take}
use Rattle.iso_lint.specs.Places.{behind_all}
use Rattle.iso_lint.proofs.places.behind_bytes.Given as goal

abbrev pub invariant-loop-byte : goal.invariant-loop-byte
invariant-loop-byte l = (l.at ≡ behind_all l.fn.place (take l.byte-index l.bytes)) × (l.at.line ≤ l.fn.place.line + l.byte-index) × (l.at.column ≤ l.fn.place.column + l.byte-index)
