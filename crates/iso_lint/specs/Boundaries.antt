-- The boundary of a property of numbers: it holds there, and not of the next.
use Rattle.std.specs.Prelude.{◌≡◌, ◌≤◌, ◌<◌, ℕ, zero, suc, ◌+◌, ◌-◌, ◌/◌, Bool, true, false, nat_lt, if◌then◌else◌}

-- a boundary from the first number on, below the second one; the distance of the two is halved so often at most
unfoldable pub boundary_from : ℕ → (ℕ → Bool) → ℕ → ℕ → ℕ
boundary_from zero p low high = low
boundary_from (suc turns) p low high =
    if nat_lt (high - low) 2 then low else (if p (low + (high - low) / 2) then boundary_from turns p (low + (high - low) / 2) high else boundary_from turns p low (low + (high - low) / 2))

-- the boundary from 0 on, up to this number
abbrev pub boundary : (ℕ → Bool) → ℕ → ℕ
boundary p most = boundary_from (most + 1) p 0 (most + 1)

-- The property holds of the boundary, where it holds of 0, and the boundary is the last number, or it doesn't hold of the
-- next.
pub record IsBoundary (p : ℕ → Bool) (most : ℕ) (k : ℕ) : Type 0 where
  pub within : k ≤ most
  pub holds : p 0 ≡ true → p k ≡ true
  pub ends : k < most → p (k + 1) ≡ false
