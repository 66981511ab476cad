-- What the arguments of a goal that are bound ask of a part of an atom (ISO/IEC 13211-1:1995, 8.16.3).
use Rattle.std.specs.Prelude.{◌≡◌, ℕ, ◌+◌, ◌-◌, ◌<◌, ◌≤◌, ◌==◌, ◌&&◌, List, take, length, chars, Option, Some, None, pos, Bool, true, false}
use Rattle.std.specs.Borrow.{Bor}
use Rattle.std.specs.Str.{bytes_eq, encode_utf8_all}
use Rattle.iso_model.specs.Terms.Trees.{Tree, Integer, Name}
use Rattle.iso_model.specs.Terms.Arguments.{argument}
use Rattle.iso_model.specs.Search.AtomParts as model
use Rattle.iso_text.specs.declared.parts.Part.TheVariants as part
use Rattle.iso_text.specs.declared.parts.Parts.{Parts}
use Rattle.iso_text.specs.declared.sub_atoms.Asked.{Asked}
use Rattle.iso_text.specs.declared.sub_atoms.Place.{Place}
use Rattle.iso_text.specs.declared.sub_atoms.Lengths.{Lengths}

-- the number that the argument is
abbrev pub count_of : Tree → Option ℕ
count_of (Integer (pos n)) = Some n
count_of t = None

-- the name that the argument is
abbrev pub name_of : Tree → Option (List ℕ)
name_of (Name a) = Some a
name_of t = None

abbrev pub text_of : Option (Bor (List ℕ)) → Option (List ℕ)
text_of (Some text) = Some text.now
text_of None = None

-- how many characters it has
abbrev pub counted_of : Option (List ℕ) → Option ℕ
counted_of (Some a) = Some (length (chars a))
counted_of None = None

-- what the arguments of the goal ask of a part
abbrev pub asked_of : Tree → Asked
asked_of t = record { before = count_of (argument 1 t); length = count_of (argument 2 t); behind = count_of (argument 3 t); counted = counted_of (name_of (argument 4 t)) }

-- the number, if one is asked for, is this one
abbrev pub allows : Option ℕ → ℕ → Bool
allows (Some m) n = m == n
allows None n = true

abbrev pub allows_text : Option (List ℕ) → List ℕ → Bool
allows_text (Some a) b = bytes_eq a b
allows_text None b = true

-- the characters begin with those of the text
abbrev pub begins : Option (List ℕ) → List ℕ → Bool
begins (Some a) cs = bytes_eq a (encode_utf8_all (take (length (chars a)) cs))
begins None cs = true

-- the part is what is asked for
abbrev pub suits : Asked → Option (List ℕ) → List ℕ → model.Part → Bool
suits asked text cs p = allows asked.before p.before && (allows asked.length p.length && (allows asked.behind (model.behind cs p) && allows_text text (model.part_text cs p)))

-- A part of this length suits, at a place behind which so many characters stand.
abbrev pub length_suits : Asked → ℕ → ℕ → Bool
length_suits asked rest n = allows asked.counted n && (allows asked.length n && allows asked.behind (rest - n))

-- the first so many characters of the rest of the atom are a part that suits
abbrev pub suits_here : Asked → Option (List ℕ) → ℕ → List ℕ → ℕ → Bool
suits_here asked text before after n = allows asked.before before && (allows asked.length n && (allows asked.behind (length after - n) && allows_text text (encode_utf8_all (take n after))))

-- Of the numbers up to this one, those that pass the test are the least one and so many more.
pub record PassFrom (test : ℕ → Bool) (most least more : ℕ) : Type 0 where
  pub within : least + more ≤ most
  pub below : (n : ℕ) → n < least → test n ≡ false
  pub here : (n : ℕ) → least ≤ n → n ≤ least + more → test n ≡ true
  pub above : (n : ℕ) → least + more < n → n ≤ most → test n ≡ false

abbrev pub AreLengths : (ℕ → Bool) → ℕ → Option Lengths → Type 0
AreLengths test rest (Some lengths) = PassFrom test rest lengths.least lengths.more
AreLengths test rest None = (n : ℕ) → n ≤ rest → test n ≡ false

-- These are the parts at the place that suit.
abbrev pub ArePartsAt : Asked → Option (List ℕ) → List ℕ → Place → Option Parts → Type 0
ArePartsAt asked text after place (Some ps) = (least : ℕ)
    × (ps.first ≡ part.Sub record { before = place.before; start = place.start; length = least; behind = place.rest - least })
    × PassFrom (suits_here asked text place.before after) place.rest least ps.more
ArePartsAt asked text after place None = (n : ℕ) → n ≤ place.rest → suits_here asked text place.before after n ≡ false
