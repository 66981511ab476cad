-- The splits before the rest of the text are kept.
use Rattle.std.proofs.Common.{ℕ}
use Rattle.iso_text.proofs.PlaceLemmas.{IsPlace}
use Rattle.iso_text.proofs.SplitLemmas.{SplitSoFar}
use Rattle.iso_text.proofs.splits.splits.Given as goal

abbrev pub invariant-loop-place : goal.invariant-loop-place
invariant-loop-place l = (count : ℕ) × IsPlace l.text count l.place-iterator.at l.place-iterator.rest.now × SplitSoFar l.text count l.kept.items
