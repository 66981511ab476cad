use Rattle.std.proofs.Common.{rules}
use Rattle.std.specs.Prelude.{FitsSigned}
use Rattle.std.specs.Int.{w128}
use Rattle.std.proofs.lemmas.Int.{to_z-of_z}
use Rattle.iso_evaluation.specs.Running.{operand_value}
use Rattle.iso_evaluation.proofs.ValueLemmas.{both_hold}
use Rattle.iso_evaluation.proofs.values.holds_of_both.Goals as goal

pub returns-clause-holds : goal.returns-clause-holds
returns-clause-holds g c next s stand =
    let names = g.S.Store.names c.args.store.now in
    let x = c.in_ok-first.first in
    let y = c.in_ok-second.second in
    let first : FitsSigned w128 x = search rules in
    let second : FitsSigned w128 y = search rules in
    let holds = rw (to_z-of_z w128 x first, to_z-of_z w128 y second) at c.holds.ensures in
    both_hold names c.args.comparison (operand_value names next s c.args.left.now) (operand_value names next s c.args.right.now)
    x y c.holds.result (c.in_ok-first.ensures.value next s stand) (c.in_ok-second.ensures.value next s stand) holds
