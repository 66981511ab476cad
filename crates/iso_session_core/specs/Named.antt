-- The named variables of a term that was read.
use Rattle.std.specs.Prelude.{ℕ, List, map, String}
use Rattle.std.specs.Global.{Global}
use Rattle.std.specs.String.{string_bytes}

-- the names, as bytes, each with its variable's number
abbrev pub names_of : List (String Global × ℕ) → List (List ℕ × ℕ)
names_of names = map (λ entry. (string_bytes entry.0, entry.1)) names
