-- Names that come: atoms keep theirs.
use Rattle.std.proofs.Common.{◌≡◌, ℕ, ◌<◌, List, [], length, Some}
use Rattle.std.specs.List.{slice_get}
use Rattle.std.proofs.lemmas.Option.{slice_get_within, slice_get-get_or, get_or_from_slice_get}
use Rattle.iso_atoms.specs.Texts.{KeepsTexts, text_at}

-- an atom keeps its name
pub text-kept : (old new : List (List ℕ)) → KeepsTexts old new → (a : ℕ) → a < length old → text_at new a ≡ text_at old a
text-kept old new keeps a h = get_or_from_slice_get new a (text_at old a) [] (keeps a (text_at old a) (slice_get-get_or old a [] h))

-- and stays one
pub atom-kept : (old new : List (List ℕ)) → KeepsTexts old new → (a : ℕ) → a < length old → a < length new
atom-kept old new keeps a h = slice_get_within new a (text_at old a) (keeps a (text_at old a) (slice_get-get_or old a [] h))

-- the name at the place of an atom
pub text-is : (names : List (List ℕ)) (a : ℕ) (text : List ℕ) → slice_get names a ≡ Some text → text_at names a ≡ text
text-is names a text h = get_or_from_slice_get names a text [] h

pub keeps-then : (old mid new : List (List ℕ)) → KeepsTexts old mid → KeepsTexts mid new → KeepsTexts old new
keeps-then old mid new one other place text h = other place text (one place text h)
