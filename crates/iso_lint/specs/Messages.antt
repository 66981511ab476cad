-- The messages on a text: what is found in it, each with the place of its token (own).
use Rattle.std.specs.Prelude.{ℕ, ◌+◌, ◌-◌, List, length, map, Option, Some, None}
use Rattle.iso_model.specs.Session.Sessions.{body_of_text}
use Rattle.iso_lint.specs.declared.places.Place.{Place}
use Rattle.iso_lint.specs.Places.{place_at}
use Rattle.iso_lint.specs.Findings.{What, Broken, Once, Apart, Unknown, Finding, found_in_text}

-- A message: where it belongs, what it is, and where the procedure's clauses stood before, if it is of clauses that
-- are apart.
pub record Message : Type 0 where
  pub place : Place
  pub what : What
  pub before : Option Place

abbrev pub before_of : (ℕ → Place) → What → Option Place
before_of at (Broken fault) = None
before_of at (Once name) = None
before_of at (Apart procedure before) = Some (at before)
before_of at (Unknown procedure) = None

abbrev pub message : (ℕ → Place) → Finding → Message
message at f = record { place = at f.start; what = f.what; before = before_of at f.what }

-- where the byte of this number of the text's body stands in the text
abbrev pub place_in_body : List ℕ → ℕ → Place
place_in_body text start = place_at text ((length text - length (body_of_text text)) + start)

-- the messages on a text, in the order of the text
abbrev pub messages : List ℕ → List Message
messages text = map (message (place_in_body text)) (found_in_text (body_of_text text))
