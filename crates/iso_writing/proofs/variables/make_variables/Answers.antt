use Rattle.std.proofs.Common.{◌+◌, ◌∷◌, [], take, drop, ◌∙◌}
use Rattle.std.proofs.lemmas.List.{take_all}
use Rattle.iso_store_core.proofs.RetainLemmas.{retains_all_on}
use Rattle.iso_writing.proofs.VariableLemmas.{next_taken, next_parted, begins_on, makes_both, widens_on, cells_on, cells_within}
use Rattle.iso_writing.proofs.variables.make_variables.Goals as goal

pub make_variable-requires-clause-stands : goal.make_variable-requires-clause-stands
make_variable-requires-clause-stands g c =
    let i = c.loop-operand.operand-index in
    begins_on (g.S.Store.present c.args.store.now) (g.S.Store.present c.loop-operand.store) (take i c.args.operands.now) (c.operand-item.result ∷ []) (drop (i + 1) c.args.operands.now) c.args.operands.now
    (next_parted c.args.operands.now i c.operand-item.result c.loop-operand-test.true c.operand-item.is) c.args.environment.now c.loop-operand.environment c.args.first c.loop-operand.invariant.makes c.requires.stands

pub returns-in_err-make_variable-clause-cells : goal.returns-in_err-make_variable-clause-cells
returns-in_err-make_variable-clause-cells g c =
    let i = c.loop-operand.operand-index in
    cells_within (g.S.Store.present c.args.store.now) (g.S.Store.present c.loop-operand.store) (take i c.args.operands.now) (c.operand-item.result ∷ []) (drop (i + 1) c.args.operands.now) c.args.operands.now
    (next_parted c.args.operands.now i c.operand-item.result c.loop-operand-test.true c.operand-item.is) (g.S.Store.present c.make_variable.new.store) c.loop-operand.invariant.cells c.make_variable.ensures.cells

pub loop-operand-preserved : goal.loop-operand-preserved
loop-operand-preserved g c =
    let i = c.loop-operand.operand-index in
    let p = g.S.Store.present c.args.store.now in
    let q = g.S.Store.present c.loop-operand.store in
    let r = g.S.Store.present c.make_variable.new.store in
    let so_far = take i c.args.operands.now in
    let here = c.operand-item.result ∷ [] in
    let longer = next_taken c.args.operands.now i c.operand-item.result c.loop-operand-test.true c.operand-item.is in
    record {
      makes = rw longer (makes_both p q r so_far here c.args.first c.args.environment.now c.loop-operand.environment c.make_variable.new.environment
          c.loop-operand.invariant.makes c.in_ok-make_variable.ensures.makes);
      widens = widens_on c.loop-operand.invariant.widens c.in_ok-make_variable.ensures.widens;
      count = c.make_variable.ensures.count ∙ c.loop-operand.invariant.count;
      cells = rw longer (cells_on p q r so_far here c.loop-operand.invariant.cells c.make_variable.ensures.cells);
      rest = retains_all_on c.loop-operand.invariant.rest c.make_variable.ensures.rest;
    }

pub returns-clause-makes : goal.returns-clause-makes
returns-clause-makes g c =
    let all = take_all c.loop-operand.operand-index c.args.operands.now c.loop-operand-test.false in
    rw all at c.loop-operand.invariant.makes
