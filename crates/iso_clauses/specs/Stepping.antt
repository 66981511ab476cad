-- The clauses of a view, one after another.
use Rattle.std.specs.Prelude.{◌≡◌, ℕ, List, [], ◌∷◌, Option, Some, None}
use Rattle.iso_clauses.specs.Clauses.{Clause}

module _ {C : Type 0} where
  -- the number of the first clause
  abbrev pub first_number : List (Clause C) → Option ℕ
  first_number [] = None
  first_number (c ∷ cs) = Some c.number

  -- the clauses behind the first
  abbrev pub behind : List (Clause C) → List (Clause C)
  behind [] = []
  behind (c ∷ cs) = cs

  -- the first of the clauses is taken
  abbrev pub Steps : List (Clause C) → Option ℕ → List (Clause C) → Type 0
  Steps cs number rest = (number ≡ first_number cs) × (rest ≡ behind cs)
