-- Tables of operations, by the atoms of their names.
use Rattle.std.specs.Prelude.{◌≡◌, ◌<◌, ℕ, List, length, map}
use Rattle.std.specs.Borrow.{Bor}
use Rattle.std.specs.List.{All}
use Rattle.iso_atoms.specs.Texts.{text_at}

-- the rows that the code lists
abbrev pub rows_of : {O : Type 0} → List (Bor (List ℕ) × O) → List (List ℕ × O)
rows_of rows = map (λ r. (r.0.now, r.1)) rows

-- an entry by its name, where these are the names of the atoms
abbrev pub named_by : {O : Type 0} → List (List ℕ) → ℕ × O → List ℕ × O
named_by names e = (text_at names e.0, e.1)

-- each atom of the table has a name
abbrev pub HaveNames : {O : Type 0} → List (List ℕ) → List (ℕ × O) → Type 0
HaveNames names table = All (λ e. e.0 < length names) table

-- The table has these rows, in their order.
pub record IsTable {O : Type 0} (names : List (List ℕ)) (table : List (ℕ × O)) (rows : List (List ℕ × O)) : Type 0 where
  pub within : HaveNames names table
  pub named : map (named_by names) table ≡ rows
