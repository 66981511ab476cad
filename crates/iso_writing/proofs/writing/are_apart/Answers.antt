use Rattle.std.proofs.Common.{rules, ◌≡◌, true, take}
use Rattle.std.proofs.lemmas.List.{take_all}
use Rattle.std.proofs.lemmas.List.Elements.{All-push}
use Rattle.iso_writing.specs.Pushing.{IsApart}
use Rattle.iso_writing.proofs.VariableLemmas.{next_taken}
use Rattle.iso_writing.proofs.writing.are_apart.Goals as goal

pub loop-operand-preserved : goal.loop-operand-preserved
loop-operand-preserved g c =
    let i = c.loop-operand.operand-index in
    let x = c.operand-item.result in
    let yes : c.is_operand_apart.result ≡ true = search rules in
    λ n is. rw (next_taken c.args.operands.now i x c.loop-operand-test.true c.operand-item.is)
    (All-push (IsApart (g.S.Store.present c.args.store.now) n c.args.environment.now c.args.compounds.now) (take i c.args.operands.now) x (c.loop-operand.invariant n is)
    (c.is_operand_apart.ensures yes n is))

pub returns : goal.returns
returns g c =
    let all = take_all c.loop-operand.operand-index c.args.operands.now c.loop-operand-test.false in
    λ _ n is. (rw all at c.loop-operand.invariant) n is
