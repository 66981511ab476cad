use Rattle.std.proofs.Common.{◌≡◌, ◌+◌, ap, arith, rules}
use Rattle.std.specs.Prelude.{FitsSigned}
use Rattle.std.specs.Int.{w128}
use Rattle.std.proofs.lemmas.Int.{to_z-of_z}
use Rattle.iso_model.specs.Terms.Sizes.{integer_size}
use Rattle.iso_store_core.specs.Copying.{wide_cells}
use Rattle.iso_store_core.proofs.RetainLemmas.{takes_most, wide-within}
use Rattle.iso_text.proofs.numbers.equate_number.Goals as goal

pub returns-clause-cells : goal.returns-clause-cells
returns-clause-cells g c =
    let z = c.in-Some.value in
    let fits : FitsSigned w128 z = search rules in
    let same = ap wide_cells (to_z-of_z w128 z fits) in
    let some = wide-within z in
    rw c.in-Some.is (takes_most (1 + integer_size z) (omega (arith, same, some)) c.equate_integer.ensures.cells)
