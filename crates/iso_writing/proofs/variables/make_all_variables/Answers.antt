use Rattle.std.proofs.Common.{◌+◌, ◌++◌, length, take, drop, subst, ◌∙◌}
use Rattle.std.proofs.lemmas.List.{take_all}
use Rattle.std.specs.List.{All}
use Rattle.iso_code.specs.Loaded.{all_operands, IsInside}
use Rattle.iso_store_core.proofs.RetainLemmas.{retains_all_on}
use Rattle.iso_writing.proofs.KnownLemmas.{all_left, all_right}
use Rattle.iso_writing.proofs.VariableLemmas.{operands_taken, operands_parted, begins_on, makes_both, widens_on, cells_on, cells_within}
use Rattle.iso_writing.proofs.variables.make_all_variables.Goals as goal

pub make_variables-requires-clause-stands : goal.make_variables-requires-clause-stands
make_variables-requires-clause-stands g c =
    let i = c.loop-block.block-index in
    let items = c.block-item.result.operands.items in
    rw c.as_slice.ensures.value
    (begins_on (g.S.Store.present c.args.store.now) (g.S.Store.present c.loop-block.store) (all_operands (take i c.args.blocks.now)) items (all_operands (drop (i + 1) c.args.blocks.now))
    (all_operands c.args.blocks.now) (operands_parted c.args.blocks.now i c.block-item.result c.loop-block-test.true c.block-item.is)
    c.args.environment.now c.loop-block.environment c.args.first c.loop-block.invariant.makes c.requires.stands)

pub make_variables-requires-clause-inside : goal.make_variables-requires-clause-inside
make_variables-requires-clause-inside g c =
    let i = c.loop-block.block-index in
    let items = c.block-item.result.operands.items in
    let before = all_operands (take i c.args.blocks.now) in
    let after = all_operands (drop (i + 1) c.args.blocks.now) in
    let P = IsInside c.requires.inside.0 (length c.args.environment.now) c.requires.inside.1 in
    let whole : All P (before ++ (items ++ after)) =
    subst (λ xs. All P xs) (operands_parted c.args.blocks.now i c.block-item.result c.loop-block-test.true c.block-item.is) c.requires.inside.2 in (
      c.requires.inside.0,
      c.requires.inside.1,
      rw (c.as_slice.ensures.value, c.loop-block.invariant.count) (all_left P items after (all_right P before (items ++ after) whole)),
    )

pub returns-in_err-make_variables-clause-cells : goal.returns-in_err-make_variables-clause-cells
returns-in_err-make_variables-clause-cells g c =
    let i = c.loop-block.block-index in
    let items = c.block-item.result.operands.items in
    cells_within (g.S.Store.present c.args.store.now) (g.S.Store.present c.loop-block.store) (all_operands (take i c.args.blocks.now)) items (all_operands (drop (i + 1) c.args.blocks.now))
    (all_operands c.args.blocks.now) (operands_parted c.args.blocks.now i c.block-item.result c.loop-block-test.true c.block-item.is)
    (g.S.Store.present c.make_variables.new.store) c.loop-block.invariant.cells (rw c.as_slice.ensures.value at c.make_variables.ensures.cells)

pub loop-block-preserved : goal.loop-block-preserved
loop-block-preserved g c =
    let i = c.loop-block.block-index in
    let p = g.S.Store.present c.args.store.now in
    let q = g.S.Store.present c.loop-block.store in
    let r = g.S.Store.present c.make_variables.new.store in
    let so_far = all_operands (take i c.args.blocks.now) in
    let items = c.block-item.result.operands.items in
    let longer = operands_taken c.args.blocks.now i c.block-item.result c.loop-block-test.true c.block-item.is in
    record {
      makes = rw longer (makes_both p q r so_far items c.args.first c.args.environment.now c.loop-block.environment c.make_variables.new.environment
          c.loop-block.invariant.makes (rw c.as_slice.ensures.value at c.in_ok-make_variables.ensures.makes));
      widens = widens_on c.loop-block.invariant.widens c.in_ok-make_variables.ensures.widens;
      count = c.make_variables.ensures.count ∙ c.loop-block.invariant.count;
      cells = rw longer (cells_on p q r so_far items c.loop-block.invariant.cells (rw c.as_slice.ensures.value at c.make_variables.ensures.cells));
      rest = retains_all_on c.loop-block.invariant.rest c.make_variables.ensures.rest;
    }

pub returns-clause-makes : goal.returns-clause-makes
returns-clause-makes g c =
    let all = take_all c.loop-block.block-index c.args.blocks.now c.loop-block-test.false in
    rw all at c.loop-block.invariant.makes
