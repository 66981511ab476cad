-- Integers of 64 bits take no cells.
use Rattle.std.proofs.Common.{◌≡◌, ℕ, ◌<◌, ◌^◌, Bool, pos, if◌then◌else◌, ap, ◌∙◌, arith, lt-ltb, to_z}
use Rattle.std.specs.Int.{w128}
use Rattle.std.proofs.lemmas.Int.{to_z_pos}
use Rattle.iso_store_core.specs.Copying.{wide_cells}

short_takes_none : (n : ℕ) → n < 2 ^ 63 → wide_cells (pos n) ≡ 0
short_takes_none n small = ap (λ (b : Bool). if b then 0 else 1) (lt-ltb n (2 ^ 63) small)

-- nor does such a number as an integer of 128 bits
pub count_takes_none : (n : ℕ) → n < 2 ^ 63 → wide_cells (to_z w128 n) ≡ 0
count_takes_none n small = ap wide_cells (to_z_pos w128 n (omega (arith, small))) ∙ short_takes_none n small
