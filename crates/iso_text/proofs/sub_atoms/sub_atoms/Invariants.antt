-- The parts at the places before the rest of the text are kept.
use Rattle.std.proofs.Common.{◌≡◌, ◌+◌, ℕ, length, chars}
use Rattle.iso_text.specs.Bounds.{text_of}
use Rattle.iso_text.proofs.PlaceLemmas.{IsPlace}
use Rattle.iso_text.proofs.SubLemmas.{SubSoFar}
use Rattle.iso_text.proofs.sub_atoms.sub_atoms.Given as goal

abbrev pub invariant-loop-start : goal.invariant-loop-start
invariant-loop-start l = (before : ℕ) × (before + l.rest ≡ length (chars l.text)) × IsPlace l.text before l.start-iterator.at l.start-iterator.rest.now × SubSoFar l.text l.asked (text_of l.part) before l.kept.items
