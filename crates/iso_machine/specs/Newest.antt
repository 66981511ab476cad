-- What the newest choice keeps; the choices are a stack, so it stands last.
use Rattle.std.specs.Prelude.{ℕ, ◌-◌, List, length, Option, Some, None}
use Rattle.std.specs.List.{slice_get}
use Rattle.iso_search_core.specs.declared.choices.Choice as kept
use Rattle.iso_frames.specs.declared.frames.Rest.{Rest}
use Rattle.iso_machine.specs.declared.framed.Extent.{Extent}
use Rattle.iso_machine.specs.declared.framed.KeptCall.{KeptCall}

module _ {W M : Type 0} where
  -- how many frames a choice keeps; none where there is no choice
  abbrev pub frames_of : Option (kept.Choice W M Extent (Option Rest) KeptCall) → ℕ
  frames_of None = 0
  frames_of (Some c) = c.kept.frames

  -- how many words a choice keeps; none where there is no choice
  abbrev pub words_of : Option (kept.Choice W M Extent (Option Rest) KeptCall) → ℕ
  words_of None = 0
  words_of (Some c) = c.kept.words

  -- how many frames the newest of these choices keeps
  abbrev pub frames_kept : List (kept.Choice W M Extent (Option Rest) KeptCall) → ℕ
  frames_kept cs = frames_of (slice_get cs (length cs - 1))

  -- how many words the newest of these choices keeps
  abbrev pub words_kept : List (kept.Choice W M Extent (Option Rest) KeptCall) → ℕ
  words_kept cs = words_of (slice_get cs (length cs - 1))
