use Rattle.std.proofs.Common.{rules}
use Rattle.iso_model.specs.Search.Settings.{operator_row}
use Rattle.iso_lib.proofs.SettlementLemmas.{offered_rows}
use Rattle.iso_lib.proofs.operators.current_op.Goals as goal

pub returns-clause-settled : goal.returns-clause-settled
returns-clause-settled g c = λ w.
    let rows = offered_rows 3 operator_row c.args.ops.now c.in_ok-operator_offers.field-0.items c.in_ok-operator_offers.ensures.rows in
    search (rules, rows)
