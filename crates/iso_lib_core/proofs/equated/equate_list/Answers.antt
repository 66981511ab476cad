use Rattle.std.proofs.Common.{arith}
use Rattle.std.proofs.lemmas.List.{length-map}
use Rattle.iso_store_core.specs.Presents.{meaning}
use Rattle.iso_store_core.proofs.RetainLemmas.{takes_on, takes_most, takes_none}
use Rattle.iso_lib_core.proofs.equated.equate_list.Goals as goal

pub returns-in_err-made-clause-cells : goal.returns-in_err-made-clause-cells
returns-in_err-made-clause-cells g c =
    let long = length-map c.args.words.now (meaning (g.S.Store.present c.args.store.now)) in
    takes_most _ (omega (arith, long)) c.make_list.ensures.cells

pub returns-in_err-unify-clause-cells : goal.returns-in_err-unify-clause-cells
returns-in_err-unify-clause-cells g c =
    let long = length-map c.args.words.now (meaning (g.S.Store.present c.args.store.now)) in
    takes_most _ (omega (arith, long)) (takes_on c.make_list.ensures.cells (takes_none 0 c.unify.ensures.cells))

pub returns-clause-cells : goal.returns-clause-cells
returns-clause-cells g c =
    let long = length-map c.args.words.now (meaning (g.S.Store.present c.args.store.now)) in
    takes_most _ (omega (arith, long)) (takes_on c.make_list.ensures.cells (takes_none 0 c.unify.ensures.cells))
