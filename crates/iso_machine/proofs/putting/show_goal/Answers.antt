use Rattle.std.proofs.Common.{length}
use Rattle.iso_frames.specs.Costs.{compound_cells}
use Rattle.iso_program.proofs.ResultLemmas.{behind_error}
use Rattle.iso_machine.specs.Engines.{framed}
use Rattle.iso_machine.proofs.AddedLemmas.{store_grown}
use Rattle.iso_machine.proofs.Moves.Goal.{show_refused, shown}
use Rattle.iso_machine.proofs.putting.show_goal.Goals as goal

pub returns-in_err-goal-clause-stopped : goal.returns-in_err-goal-clause-stopped
returns-in_err-goal-clause-stopped g c = λ old s put r.
    let e = c.args.search.now in
    behind_error c.from_residual.result
    (show_refused g.S.Store g.S.Cells.atom_word put
    (store_grown g.S.Store (framed g.S.Cells.atom_word) e c.make_goal.new.store
    (compound_cells (length e.lists.arguments.items)) c.make_goal.ensures.rest
    (rw c.as_slice.ensures at c.make_goal.ensures.cells)) s r)

pub returns-clause-shown : goal.returns-clause-shown
returns-clause-shown g c = λ old put.
    let e = c.args.search.now in
    shown g.S.Store g.S.Cells.atom_word put
    (store_grown g.S.Store (framed g.S.Cells.atom_word) e c.make_goal.new.store
    (compound_cells (length e.lists.arguments.items)) c.make_goal.ensures.rest
    (rw c.as_slice.ensures at c.make_goal.ensures.cells)) c.in_ok-goal.goal
    (rw c.as_slice.ensures at c.in_ok-goal.ensures.made) c.in_ok-goal.ensures.numbers
