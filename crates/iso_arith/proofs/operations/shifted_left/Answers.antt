use Rattle.std.proofs.Common.{◌≡◌, ◌<◌, arith, ap, ◌∙◌}
use Rattle.std.specs.Prelude.{pos, unsigned_abs}
use Rattle.std.proofs.lemmas.Int.{ints}
use Rattle.iso_arith.specs.Faults.{value_of}
use Rattle.iso_arith.proofs.ShiftLemmas.{product_is}
use Rattle.iso_arith.proofs.operations.shifted_left.Goals as goal

pub returns-in-0-to-126 : goal.returns-in-0-to-126
returns-in-0-to-126 c =
    let is : c.args.y ≡ pos (unsigned_abs c.args.y) = omega (arith, ints) in
    let below : unsigned_abs c.args.y < 127 = omega (arith, ints) in
    ap value_of c.ok_or.ensures.value ∙ product_is c.checked_mul.result c.args.x c.args.y (unsigned_abs c.args.y) c.ranges.x is below c.checked_mul.ensures
