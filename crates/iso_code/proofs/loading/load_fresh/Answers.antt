use Rattle.std.proofs.Common.{subst, arith}
use Rattle.std.specs.List.{AllZip}
use Rattle.std.proofs.lemmas.List.{take_all}
use Rattle.iso_code.specs.Loading.{IsOfNew}
use Rattle.iso_code.proofs.LoadLemmas.{zip_more}
use Rattle.iso_code.proofs.FreshLemmas.{new_there, fresh_loaded}
use Rattle.iso_code.proofs.loading.load_fresh.Goals as goal

pub new_operand-requires : goal.new_operand-requires
new_operand-requires c = new_there c.args.fresh.now c.loop-part.part-index c.part-item.result c.requires c.loop-part-test.true c.part-item.is

pub loop-part-preserved : goal.loop-part-preserved
loop-part-preserved c =
    rw c.in_ok-push.ensures.items (zip_more IsOfNew IsOfNew c.args.fresh.now c.loop-part.operands.items c.loop-part.part-index c.part-item.result c.new_operand.result (λ p o h. h)
    c.loop-part-test.true c.part-item.is c.loop-part.invariant c.new_operand.ensures)

pub returns : goal.returns
returns c =
    let all = take_all c.loop-part.part-index c.args.fresh.now (omega (arith, c.loop-part-test.false)) in
    fresh_loaded c.args.fresh.now c.loop-part.operands.items (subst (λ ps. AllZip IsOfNew ps c.loop-part.operands.items) all c.loop-part.invariant)
