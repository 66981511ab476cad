-- Numbers that are left of a list while it is gone through.
use Rattle.std.specs.Prelude.{◌≡◌, ◌≤◌, ℕ, List, length, drop}

-- the second list ends the first one, behind so many of it
abbrev pub IsTail : List ℕ → List ℕ → Type 0
IsTail ns rest = (k : ℕ) × (rest ≡ drop k ns) × (k ≤ length ns)
