use Rattle.std.proofs.Common.{[], sym}
use Rattle.iso_writing.proofs.KnownLemmas.{cells_same, compound_holds, compound_adds}
use Rattle.iso_writing.proofs.known.write_known.Goals as goal

pub returns-then-block-clause-cells : goal.returns-then-block-clause-cells
returns-then-block-clause-cells g c counts =
    let same = cells_same (g.S.Store.names c.args.store.now) [] 0 c.args.block.now.operands.items in
    let grows = rw c.as_slice-operands.ensures.value at (c.write_wide.ensures.cells counts) in
    rw (sym same) grows

pub close-requires-clause-pushed : goal.close-requires-clause-pushed
close-requires-clause-pushed g c = c.in_ok-push_all_known.ensures.come

pub returns-clause-holds : goal.returns-clause-holds
returns-clause-holds g c =
    let come = c.in_ok-push_all_known.ensures.come in
    compound_holds (g.S.Store.present c.push_all_known.new.store) (g.S.Store.present c.close.new.self) c.close.result _ (c.close.ensures.made come.0 come.1 come.2)

pub returns-clause-adds : goal.returns-clause-adds
returns-clause-adds g c =
    let come = c.in_ok-push_all_known.ensures.come in
    compound_adds (g.S.Store.present c.push_all_known.new.store) (g.S.Store.present c.close.new.self) (g.S.Store.present c.args.store.now) c.close.result _ c.in_ok-push_all_known.ensures.adds (c.close.ensures.made come.0 come.1 come.2) c.close.ensures.numbers
