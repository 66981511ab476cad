use Rattle.std.proofs.Common.{◌≡◌, ◌≢◌, true, false, rules}
use Rattle.std.specs.Prelude.{pos}
use Rattle.iso_arith.specs.Quotients.{is_cut_upwards}
use Rattle.iso_arith.proofs.QuotientLemmas.{floored_is, rest_is, rest_below}
use Rattle.iso_arith.proofs.quotients.modulo.Goals as goal

pub returns-then-is_cut_upwards : goal.returns-then-is_cut_upwards
returns-then-is_cut_upwards c =
    let cut : is_cut_upwards c.args.x c.args.y ≡ true = search rules in
    let some : c.args.y ≢ pos 0 = search rules in
    rw (floored_is c.args.x c.args.y some, cut, rest_below c.args.x c.args.y) (search rules)

pub returns : goal.returns
returns c =
    let cut : is_cut_upwards c.args.x c.args.y ≡ false = search rules in
    let some : c.args.y ≢ pos 0 = search rules in
    rw (floored_is c.args.x c.args.y some, cut, rest_is c.args.x c.args.y) (search rules)
