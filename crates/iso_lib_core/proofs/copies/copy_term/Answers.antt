use Rattle.std.proofs.Common.{ap, arith}
use Rattle.iso_model.specs.Terms.Sizes.{size}
use Rattle.iso_store_core.specs.Presents.{meaning}
use Rattle.iso_store_core.proofs.ArgumentLemmas.{argument-is}
use Rattle.iso_store_core.proofs.RetainLemmas.{takes_copy}
use Rattle.iso_lib_core.proofs.copies.copy_term.Goals as goal

pub returns-in_err-copy-clause-cells : goal.returns-in_err-copy-clause-cells
returns-in_err-copy-clause-cells g c = λ t are.
    let p = g.S.Store.present c.args.store.now in
    let original = c.index-arguments-0.result in
    let same = ap size (argument-is p c.args.arguments.now t 0 original are (omega arith) c.index-arguments-0.is) in
    takes_copy _ (meaning p original) (omega (arith, same)) c.copy.ensures.cells
