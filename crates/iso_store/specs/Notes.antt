-- What is noted of places.
use Rattle.std.specs.Prelude.{ℕ, Option, Some, None, ◌==◌, if◌then◌else◌}
use Rattle.std.specs.List.{slice_get}
use Rattle.iso_store.specs.declared.notes.Note.{Note}
use Rattle.iso_store.specs.declared.notes.Notes.{Notes}

-- the value of a note of this stamp
abbrev pub value_of : {V : Type 0} → ℕ → Option (Note V) → Option V
value_of stamp None = None
value_of stamp (Some n) = if n.stamp == stamp then Some n.value else None

-- the value that is noted of a place
abbrev pub noted : {V : Type 0} → Notes V → ℕ → Option V
noted notes place = value_of notes.stamp (slice_get notes.notes.items place)
