use Rattle.std.proofs.Common.{rules}
use Rattle.iso_ops.specs.Settings.{flag_entries}
use Rattle.iso_model.specs.Search.Settings.{flag_row}
use Rattle.iso_lib.proofs.SettlementLemmas.{offered_rows}
use Rattle.iso_lib.proofs.flags.current_flag.Goals as goal

pub returns-clause-settled : goal.returns-clause-settled
returns-clause-settled g c = λ t are w.
    let rows = offered_rows 2 flag_row (flag_entries c.args.flags.now) c.in_ok-flag_offers.field-0.items c.in_ok-flag_offers.ensures.rows in
    search (rules, rows)
