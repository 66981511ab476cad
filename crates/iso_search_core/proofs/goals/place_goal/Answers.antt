use Rattle.iso_store_core.specs.Presents.{meaning}
use Rattle.iso_store_core.proofs.RetainLemmas.{takes_most}
use Rattle.iso_search_core.specs.Cells.{goal_cells}
use Rattle.iso_search_core.proofs.CellLemmas.{goal_within}
use Rattle.iso_search_core.proofs.goals.place_goal.Goals as goal

pub returns-in_err-place-clause-cells : goal.returns-in_err-place-clause-cells
returns-in_err-place-clause-cells g c =
    let t = meaning (g.S.Store.present c.args.store.now) c.args.goal in
    let can = rw c.in_default.is at c.in_ok-ball.ensures.error in
    takes_most (goal_cells t) (goal_within t can.0 can.1) c.in_err-place.ensures.cells

pub returns-clause-cells : goal.returns-clause-cells
returns-clause-cells g c =
    let t = meaning (g.S.Store.present c.args.store.now) c.args.goal in
    let can = rw c.in_default.is at c.in_ok-ball.ensures.error in
    takes_most (goal_cells t) (goal_within t can.0 can.1) c.in_ok-place.ensures.cells
