-- The marks so far, and the next one, are of the text.
use Rattle.std.specs.List.{All}
use Rattle.iso_lint.specs.Places.{IsMark}
use Rattle.iso_lint.proofs.places.all_marks.Given as goal

abbrev pub invariant-loop : goal.invariant-loop
invariant-loop l = All (IsMark l.text) l.marks.items × IsMark l.text l.mark
