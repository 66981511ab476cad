-- A store in which nothing was made yet.
use Rattle.std.specs.Prelude.{◌≡◌, ℕ, ◌<◌, ◌^◌, false}
use Rattle.iso_store_core.specs.Presents.{Present}

-- It has no cell, and none of its numbers is used.
pub record IsNew {W : Type 0} (p : Present W) : Type 0 where
  pub next : p.next ≡ 0
  pub cells : p.cells ≡ 0
  pub limit : p.limit < 2 ^ 32
  pub free : (n : ℕ) → p.taken n ≡ false
