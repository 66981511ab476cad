use Rattle.std.proofs.Common.{arith}
use Rattle.iso_store_core.proofs.RetainLemmas.{takes_most}
use Rattle.iso_text.proofs.ShortLemmas.{count_takes_none}
use Rattle.iso_text.proofs.lengths.equate_length.Goals as goal

pub returns-clause-cells : goal.returns-clause-cells
returns-clause-cells g c =
    let none = count_takes_none c.args.count c.requires.small in
    takes_most 0 (omega (arith, none)) c.equate_integer.ensures.cells
