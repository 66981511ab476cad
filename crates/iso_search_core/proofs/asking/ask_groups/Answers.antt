use Rattle.iso_search_core.proofs.AskingLemmas.{template_takes}
use Rattle.iso_search_core.proofs.CellLemmas.{takes_counted}
use Rattle.iso_store_core.specs.Presents.{meaning}
use Rattle.iso_search_core.proofs.asking.ask_groups.Goals as goal

pub returns-in_err-witness-clause-cells : goal.returns-in_err-witness-clause-cells
returns-in_err-witness-clause-cells g c =
    let p = g.S.Store.present c.args.store.now in
    takes_counted (template_takes p (meaning p c.args.goal) _ _ c.in_ok-goal.free.items _ c.as_slice.ensures.value
    c.arg-item.ensures.value c.arg-solved.ensures.value c.in_ok-goal.ensures.free) c.in_err-witness.ensures.cells

pub returns-clause-cells : goal.returns-clause-cells
returns-clause-cells g c =
    let p = g.S.Store.present c.args.store.now in
    takes_counted (template_takes p (meaning p c.args.goal) _ _ c.in_ok-goal.free.items _ c.as_slice.ensures.value
    c.arg-item.ensures.value c.arg-solved.ensures.value c.in_ok-goal.ensures.free) c.in_ok-witness.ensures.cells
