use Rattle.std.proofs.Common.{◌≡◌, ◌<◌, rules, arith, sym}
use Rattle.std.specs.Prelude.{pos, negsuc, unsigned_abs}
use Rattle.std.proofs.lemmas.Int.{ints}
use Rattle.iso_arith.proofs.PowerLemmas.{zero_power, one_power, even_power, odd_power, large_power}
use Rattle.iso_arith.proofs.operations.raised_to.Goals as goal

pub returns-else-exponent-eq0 : goal.returns-else-exponent-eq0
returns-else-exponent-eq0 c = let x : c.args.x ≡ pos 0 = search rules in rw x (sym (zero_power c.args.exponent c.if-exponent-eq0.false))

pub returns-then-x-eq1 : goal.returns-then-x-eq1
returns-then-x-eq1 c = let x : c.args.x ≡ pos 1 = search rules in rw x (sym (one_power c.args.exponent))

pub returns-then-exponent-eq0-2 : goal.returns-then-exponent-eq0-2
returns-then-exponent-eq0-2 c = let x : c.args.x ≡ negsuc 0 = search rules in rw x (sym (even_power c.args.exponent c.if-exponent-eq0-2.true))

pub returns-else-exponent-eq0-2 : goal.returns-else-exponent-eq0-2
returns-else-exponent-eq0-2 c = let x : c.args.x ≡ negsuc 0 = search rules in rw x (sym (odd_power c.args.exponent c.if-exponent-eq0-2.false))

pub returns-then-exponent-ge128 : goal.returns-then-exponent-ge128
returns-then-exponent-ge128 c = let far : 1 < unsigned_abs c.args.x = omega (arith, ints) in sym (large_power c.args.x c.args.exponent far (omega (arith, c.if-exponent-ge128.true)))
