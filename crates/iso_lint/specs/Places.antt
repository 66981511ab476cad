-- Where a byte of a text stands, as a reader counts: its line, and its column among that line's characters.
use Rattle.std.specs.Prelude.{◌≡◌, ◌≤◌, ℕ, ◌+◌, Bool, ◌&&◌, ◌==◌, nat_le, nat_lt, List, length, take, fold, if◌then◌else◌}
use Rattle.iso_model.specs.Syntax.Characters.{newline}
use Rattle.iso_lint.specs.declared.places.Place.{Place}
use Rattle.iso_lint.specs.declared.places.Mark.{Mark}

-- the place of this line and column, each counted from 1
abbrev pub place : ℕ → ℕ → Place
place line column = record { line = line; column = column }

-- whether a byte goes on with the character of the byte before it (UTF-8)
abbrev pub goes_on : ℕ → Bool
goes_on byte = nat_le 128 byte && nat_lt byte 192

-- the place behind one more byte: a newline begins a line, and any other character takes a column
abbrev pub behind : Place → ℕ → Place
behind p byte =
    if byte == newline then place (p.line + 1) 1
    else (if goes_on byte then p else place p.line (p.column + 1))

-- the place behind these bytes, from this place on
abbrev pub behind_all : Place → List ℕ → Place
behind_all p bytes = fold behind p bytes

-- where the byte of this number stands in the text
abbrev pub place_at : List ℕ → ℕ → Place
place_at text start = behind_all (place 1 1) (take start text)

-- this place is that of the byte of this number, which is within the text or at its end
pub record IsMark (text : List ℕ) (m : Mark) : Type 0 where
  pub within : m.start ≤ length text
  pub place : m.place ≡ place_at text m.start
  pub line : m.place.line ≤ m.start + 1
  pub column : m.place.column ≤ m.start + 1
