-- How a key is found: the number of its name, and in the row of this name its number of arguments with the place.
use Rattle.std.specs.Prelude.{◌≡◌, ℕ, zero, suc, ◌<◌, ◌≤◌, ◌==◌, List, [], ◌∷◌, ◌++◌, Option, Some, None, if◌then◌else◌, length, map, option_map, get_or, String, Vec}
use Rattle.std.specs.Global.{Global}
use Rattle.std.specs.Option.{option_and_then}
use Rattle.std.specs.Str.{bytes_eq}
use Rattle.std.specs.String.{string_bytes}
use Rattle.iso_db.specs.Keys.{Key, Heading, key, place_of}
use Rattle.iso_db.specs.declared.places.Named.{Named}
use Rattle.iso_db.specs.declared.places.Functor.{Functor}

-- the number of a name
abbrev pub index_of : List (String Global) → List ℕ → Option ℕ
index_of [] name = None
index_of (n ∷ ns) name = if bytes_eq name (string_bytes n) then Some 0 else option_map suc (index_of ns name)

-- the text of the name of this number (the empty one past the end)
abbrev pub text_at : List (String Global) → ℕ → List ℕ
text_at [] i = []
text_at (n ∷ ns) zero = string_bytes n
text_at (n ∷ ns) (suc i) = text_at ns i

-- the place in a row
abbrev pub place_in : List Named → ℕ → Option ℕ
place_in [] arity = None
place_in (n ∷ ns) arity = if n.arity == arity then Some n.place else place_in ns arity

-- the row of this number (the empty one past the end)
abbrev pub row_at : List (Vec Named Global) → ℕ → List Named
row_at [] i = []
row_at (r ∷ rs) zero = r.items
row_at (r ∷ rs) (suc i) = row_at rs i

-- the place of the key of this name and number of arguments
abbrev pub found : List (String Global) → List (Vec Named Global) → List ℕ → ℕ → Option ℕ
found names rows name arity = option_and_then (λ i. place_in (row_at rows i) arity) (index_of names name)

-- the keys
abbrev pub keys_of : List (String Global) → List Functor → List Key
keys_of names keys = map (λ f. key (text_at names f.name) f.arity) keys

-- the keys with the kinds of their procedures
abbrev pub headings_of : List (String Global) → List Functor → List Heading
headings_of names keys = map (λ f. record { key = key (text_at names f.name) f.arity; kind = f.kind }) keys

-- a row behind which the entry was put, if it is that of this number
abbrev pub put_at : ℕ → Named → ℕ → List Named → List Named
put_at index n i row = if i == index then row ++ n ∷ [] else row

-- Names keep their numbers.
pub record KeepsNames (old new : List (String Global)) : Type 0 where
  pub longer : length old ≤ length new
  pub texts : (i : ℕ) → i < length old → text_at new i ≡ text_at old i

-- The rows hold each key once, with its place.
pub record IsIndex (names : List (String Global)) (rows : List (Vec Named Global)) (keys : List Functor) : Type 0 where
  pub rows_of_names : length rows ≡ length names
  pub named : (k : ℕ) (d : Functor) → k < length keys → (get_or keys k d).name < length names
  pub finds : (name : List ℕ) (arity : ℕ) → found names rows name arity ≡ place_of (keys_of names keys) name arity
