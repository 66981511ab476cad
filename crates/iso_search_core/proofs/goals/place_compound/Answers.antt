use Rattle.std.proofs.Common.{◌+◌, ap, map, length, codes, ◌∙◌, arith}
use Rattle.iso_atoms.specs.Texts.{text_at}
use Rattle.iso_model.specs.Terms.Trees.{Apply, row}
use Rattle.iso_model.specs.Search.Errors.{key}
use Rattle.iso_store_core.specs.Presents.{meaning}
use Rattle.iso_store_core.proofs.RetainLemmas.{takes_on, takes_most, takes_some}
use Rattle.iso_prep.specs.Conversions.{is_callable}
use Rattle.iso_search_core.specs.Cells.{conversion_cells, goal_cells}
use Rattle.iso_search_core.specs.Words.{Extends}
use Rattle.iso_search_core.proofs.CellLemmas.{compound_within}
use Rattle.iso_search_core.proofs.GoalLemmas.{made_value, row_length}
use Rattle.iso_search_core.proofs.ReplyLemmas.{body_behind}
use Rattle.iso_search_core.proofs.goals.place_compound.Goals as goal

pub returns-in_err-goal-clause-cells : goal.returns-in_err-goal-clause-cells
returns-in_err-goal-clause-cells g c = λ fits.
    let ws = c.args.words.now in
    let m = meaning (g.S.Store.present c.args.store.now) in
    let f = text_at (g.S.Store.names c.args.store.now) c.args.name in
    let can = rw c.in_default.is at c.in_ok-ball.ensures in
    let large = compound_within f (row (map m ws)) fits can.1 in
    let many = row_length m ws in
    takes_some (goal_cells (Apply f (row (map m ws)))) (omega (arith, large, many)) (omega arith) c.in_err-goal.ensures.cells

pub place_goal-requires-clause-callable : goal.place_goal-requires-clause-callable
place_goal-requires-clause-callable g c =
    let p = g.S.Store.present c.args.store.now in
    let q = g.S.Store.present c.compound.new.self in
    let f = text_at (g.S.Store.names c.args.store.now) c.args.name in
    let can = rw c.in_default.is at c.in_ok-ball.ensures in
    ap is_callable (made_value p q c.in_ok-goal.goal f c.args.words.now c.in_ok-goal.ensures.made) ∙ can.1

pub returns-in_err-place-clause-cells : goal.returns-in_err-place-clause-cells
returns-in_err-place-clause-cells g c = λ fits.
    let ws = c.args.words.now in
    let p = g.S.Store.present c.args.store.now in
    let q = g.S.Store.present c.compound.new.self in
    let f = text_at (g.S.Store.names c.args.store.now) c.args.name in
    let can = rw c.in_default.is at c.in_ok-ball.ensures in
    let large = compound_within f (row (map (meaning p) ws)) fits can.1 in
    let many = row_length (meaning p) ws in
    let same = ap conversion_cells (made_value p q c.in_ok-goal.goal f ws c.in_ok-goal.ensures.made) in
    takes_most (goal_cells (Apply f (row (map (meaning p) ws)))) (omega (arith, large, many, same))
    (takes_on (takes_some (length ws + 1) (omega arith) (omega arith) c.in_ok-goal.ensures.cells) c.in_err-place.ensures.cells)

pub returns-clause-cells : goal.returns-clause-cells
returns-clause-cells g c = λ fits.
    let ws = c.args.words.now in
    let p = g.S.Store.present c.args.store.now in
    let q = g.S.Store.present c.compound.new.self in
    let f = text_at (g.S.Store.names c.args.store.now) c.args.name in
    let can = rw c.in_default.is at c.in_ok-ball.ensures in
    let large = compound_within f (row (map (meaning p) ws)) fits can.1 in
    let many = row_length (meaning p) ws in
    let same = ap conversion_cells (made_value p q c.in_ok-goal.goal f ws c.in_ok-goal.ensures.made) in
    takes_most (goal_cells (Apply f (row (map (meaning p) ws)))) (omega (arith, large, many, same))
    (takes_on (takes_some (length ws + 1) (omega arith) (omega arith) c.in_ok-goal.ensures.cells) c.in_ok-place.ensures.cells)

pub returns-clause-placed : goal.returns-clause-placed
returns-clause-placed g c =
    let ws = c.args.words.now in
    let p = g.S.Store.present c.args.store.now in
    let m = g.S.Store.present c.compound.new.self in
    let q = g.S.Store.present c.place_goal.new.store in
    let f = text_at (g.S.Store.names c.args.store.now) c.args.name in
    let made = c.in_ok-goal.ensures.made in
    let kept = c.in_ok-goal.ensures.numbers in
    let more : Extends p m 0 = record { words = made.words; substitution = made.substitution; next = omega (arith, kept.next) } in
    body_behind g.L.Lists p m q more c.args.lists.now c.place_goal.new.self c.in_ok-goal.goal (Apply f (row (map (meaning p) ws))) (key (codes "call") c.args.arity) c.in_ok-place.place
    (made_value p m c.in_ok-goal.goal f ws made) tt c.in_ok-place.ensures.placed c.in_ok-place.ensures.keeps
