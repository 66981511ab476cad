-- A list that is changed at places, and what takes the changes back.
use Rattle.std.specs.Prelude.{ℕ, zero, suc, List, [], ◌∷◌}

-- the list, changed at this place
abbrev pub changed_at : {X : Type 0} → (X → X) → List X → ℕ → List X
changed_at f [] e = []
changed_at f (x ∷ xs) zero = f x ∷ xs
changed_at f (x ∷ xs) (suc e) = x ∷ changed_at f xs e

-- the list, where each entry takes back a change, the newest (last) first
abbrev pub back : {X E : Type 0} → (E → List X → List X) → List E → List X → List X
back step [] xs = xs
back step (e ∷ es) xs = step e (back step es xs)
