-- What clauses see of marks.
use Rattle.std.specs.List.{All}
use Rattle.iso_lint.specs.Places.{IsMark}
use Rattle.iso_lint.specs.declared.places.Marks.{Marks}

-- these are bytes of the text, with their places
abbrev pub AreMarks : Marks → Type 0
AreMarks m = All (IsMark m.text.now) m.marks.items
