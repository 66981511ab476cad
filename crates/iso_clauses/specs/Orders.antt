-- The order of a procedure's clauses: those that were added at the front, the last one first, and then those that were
-- added at the end.
use Rattle.std.specs.Prelude.{ℕ, Bool, true, false, ◌&&◌, nat_lt, List, [], ◌∷◌, if◌then◌else◌}
use Rattle.iso_clauses.specs.Clauses.{Clause}

-- whether a clause comes before another, by their numbers and by whether they were added at the front
abbrev pub comes_before : ℕ → Bool → ℕ → Bool → Bool
comes_before m true n true = nat_lt n m
comes_before m true n false = true
comes_before m false n true = false
comes_before m false n false = nat_lt m n

-- the same, where a function tells which were added at the front
abbrev pub is_before : (ℕ → Bool) → ℕ → ℕ → Bool
is_before front m n = comes_before m (front m) n (front n)

-- whether a clause comes before each of these
abbrev pub is_before_all : (ℕ → Bool) → ℕ → List ℕ → Bool
is_before_all front n [] = true
is_before_all front n (m ∷ ms) = is_before front n m && is_before_all front n ms

-- whether these are in order, each once
abbrev pub are_in_order : (ℕ → Bool) → List ℕ → Bool
are_in_order front [] = true
are_in_order front (n ∷ ns) = is_before_all front n ns && are_in_order front ns

module _ {C : Type 0} where
  -- x before others, or behind those that come before it
  abbrev pub placed : (ℕ → Bool) → Clause C → (List (Clause C) → List (Clause C)) → List (Clause C) → List (Clause C) → List (Clause C)
  placed front x rest whole [] = whole
  placed front x rest whole (y ∷ ys) = if is_before front x.number y.number then x ∷ rest (y ∷ ys) else y ∷ placed front x rest whole ys

  -- two lists of clauses as one, in order
  abbrev pub merged : (ℕ → Bool) → List (Clause C) → List (Clause C) → List (Clause C)
  merged front [] ys = ys
  merged front (x ∷ xs) ys = placed front x (merged front xs) (x ∷ xs) ys
