use Rattle.std.proofs.Common.{◌+◌, ◌++◌, length, arith}
use Rattle.std.proofs.lemmas.List.Elements.{All-head, All-tail}
use Rattle.iso_code.specs.Loaded.{IsSound, all_operands}
use Rattle.iso_store_core.proofs.RetainLemmas.{grows_on, grows_most}
use Rattle.iso_writing.specs.Pushing.{news, cells_of_block, cells_of_blocks}
use Rattle.iso_writing.proofs.VariableLemmas.{makes_both, news_both}
use Rattle.iso_writing.proofs.BlockLemmas.{begins_first, begins_others, compounds_hold, variables_held, first_held, others_make, sound_inside, block_unifies}
use Rattle.iso_writing.proofs.writing.write_block.Goals as goal

pub make_variables-requires-clause-stands : goal.make_variables-requires-clause-stands
make_variables-requires-clause-stands g c =
    rw c.as_slice.ensures.value (begins_first (g.S.Store.names c.args.store.now) c.args.block.now c.args.inner.now c.args.first c.args.environment.now c.args.compounds.now (g.S.Store.present c.args.store.now)
    c.requires.stands)

pub make_variables-requires-clause-inside : goal.make_variables-requires-clause-inside
make_variables-requires-clause-inside g c =
    let n = length (g.S.Store.names c.args.store.now) in
    let m = length c.args.compounds.now in
    (n, m, rw c.as_slice.ensures.value (All-head (IsSound n (length c.args.environment.now) m) c.args.block.now c.args.inner.now c.requires.sound).inside)

pub make_all_variables-requires-clause-stands : goal.make_all_variables-requires-clause-stands
make_all_variables-requires-clause-stands g c =
    begins_others (g.S.Store.names c.args.store.now) c.args.block.now c.args.inner.now c.args.first c.args.environment.now c.args.compounds.now (g.S.Store.present c.args.store.now)
    (g.S.Store.present c.make_variables.new.store) c.make_variables.new.environment (rw c.as_slice.ensures.value at c.in_ok-make_variables.ensures.makes) c.requires.stands

pub make_all_variables-requires-clause-inside : goal.make_all_variables-requires-clause-inside
make_all_variables-requires-clause-inside g c =
    let n = length (g.S.Store.names c.args.store.now) in
    let m = length c.args.compounds.now in (
      n,
      m,
      rw c.make_variables.ensures.count (sound_inside n (length c.args.environment.now) m c.args.inner.now
          (All-tail (IsSound n (length c.args.environment.now) m) c.args.block.now c.args.inner.now c.requires.sound)),
    )

pub write_all-requires-clause-sound : goal.write_all-requires-clause-sound
write_all-requires-clause-sound g c =
    rw (c.make_all_variables.ensures.rest.names, c.make_variables.ensures.rest.names, c.make_all_variables.ensures.count, c.make_variables.ensures.count)
    (All-tail (IsSound (length (g.S.Store.names c.args.store.now)) (length c.args.environment.now) (length c.args.compounds.now)) c.args.block.now c.args.inner.now c.requires.sound)

pub write_all-requires-clause-held : goal.write_all-requires-clause-held
write_all-requires-clause-held g c =
    let p = g.S.Store.present c.args.store.now in
    let q = g.S.Store.present c.make_all_variables.new.store in
    let makes = makes_both p (g.S.Store.present c.make_variables.new.store) q c.args.block.now.operands.items (all_operands c.args.inner.now) c.args.first
    c.args.environment.now c.make_variables.new.environment c.make_all_variables.new.environment
    (rw c.as_slice.ensures.value at c.in_ok-make_variables.ensures.makes) c.in_ok-make_all_variables.ensures.makes in
    variables_held (g.S.Store.names c.args.store.now) c.args.block.now c.args.inner.now c.args.first c.args.environment.now c.args.compounds.now p q c.make_all_variables.new.environment
    makes c.requires.stands

pub write_all-requires-clause-hold : goal.write_all-requires-clause-hold
write_all-requires-clause-hold g c =
    let p = g.S.Store.present c.args.store.now in
    let q = g.S.Store.present c.make_all_variables.new.store in
    let makes = makes_both p (g.S.Store.present c.make_variables.new.store) q c.args.block.now.operands.items (all_operands c.args.inner.now) c.args.first
    c.args.environment.now c.make_variables.new.environment c.make_all_variables.new.environment
    (rw c.as_slice.ensures.value at c.in_ok-make_variables.ensures.makes) c.in_ok-make_all_variables.ensures.makes in
    compounds_hold (g.S.Store.names c.args.store.now) c.args.block.now c.args.inner.now c.args.first c.args.environment.now c.args.compounds.now p q c.make_all_variables.new.environment
    makes c.requires.stands

pub write_known-requires-clause-sound : goal.write_known-requires-clause-sound
write_known-requires-clause-sound g c =
    rw (
      c.write_all.ensures.rest.names,
      c.make_all_variables.ensures.rest.names,
      c.make_variables.ensures.rest.names,
      c.make_all_variables.ensures.count,
      c.make_variables.ensures.count,
      c.write_all.ensures.count,
    )
    (All-head (IsSound (length (g.S.Store.names c.args.store.now)) (length c.args.environment.now) (length c.args.compounds.now)) c.args.block.now c.args.inner.now c.requires.sound)

pub write_known-requires-clause-held : goal.write_known-requires-clause-held
write_known-requires-clause-held g c =
    let p = g.S.Store.present c.args.store.now in
    let q = g.S.Store.present c.make_all_variables.new.store in
    let makes = makes_both p (g.S.Store.present c.make_variables.new.store) q c.args.block.now.operands.items (all_operands c.args.inner.now) c.args.first
    c.args.environment.now c.make_variables.new.environment c.make_all_variables.new.environment
    (rw c.as_slice.ensures.value at c.in_ok-make_variables.ensures.makes) c.in_ok-make_all_variables.ensures.makes in
    let all = rw (c.make_all_variables.ensures.rest.names, c.make_variables.ensures.rest.names) at c.in_ok-write_all.ensures.made in
    first_held (g.S.Store.names c.args.store.now) c.args.block.now c.args.inner.now c.args.first c.args.environment.now c.args.compounds.now p q (g.S.Store.present c.write_all.new.store)
    c.make_all_variables.new.environment c.write_all.new.compounds makes all c.in_ok-write_all.ensures.adds c.requires.compounds c.requires.stands

pub returns-clause-writes : goal.returns-clause-writes
returns-clause-writes g c =
    let p = g.S.Store.present c.args.store.now in
    let q = g.S.Store.present c.make_all_variables.new.store in
    let makes = makes_both p (g.S.Store.present c.make_variables.new.store) q c.args.block.now.operands.items (all_operands c.args.inner.now) c.args.first
    c.args.environment.now c.make_variables.new.environment c.make_all_variables.new.environment
    (rw c.as_slice.ensures.value at c.in_ok-make_variables.ensures.makes) c.in_ok-make_all_variables.ensures.makes in
    let r = g.S.Store.present c.write_all.new.store in
    let s = g.S.Store.present c.write_known.new.store in
    let all = rw (c.make_all_variables.ensures.rest.names, c.make_variables.ensures.rest.names) at c.in_ok-write_all.ensures.made in
    let word = rw (c.write_all.ensures.rest.names, c.make_all_variables.ensures.rest.names, c.make_variables.ensures.rest.names) at c.in_ok-made.ensures.made in
    block_unifies (g.S.Store.names c.args.store.now) c.args.block.now c.args.inner.now c.args.first p s (g.S.Store.present c.unify.new.self) (g.met.S.Store.untouched c.write_known.new.store)
    c.args.variable c.in_ok-made.made c.args.environment.now c.make_all_variables.new.environment c.args.compounds.now c.write_all.new.compounds c.unify.result
    (others_make (g.S.Store.names c.args.store.now) c.args.block.now c.args.inner.now c.args.first c.args.environment.now c.args.compounds.now p q r
    c.make_all_variables.new.environment c.write_all.new.compounds makes all c.in_ok-write_all.ensures.adds c.requires.compounds s c.in_ok-made.made word c.in_ok-made.ensures.adds)
    c.unify.ensures.unified

pub returns-in_err-make_variables-clause-cells : goal.returns-in_err-make_variables-clause-cells
returns-in_err-make_variables-clause-cells g c =
    let items = c.args.block.now.operands.items in
    let others = all_operands c.args.inner.now in
    let both = news_both items others in
    let one = rw c.as_slice.ensures.value at c.make_variables.ensures.cells in
    λ _. grows_most (cells_of_block c.args.block.now + cells_of_blocks c.args.inner.now + news (items ++ others)) (news (items ++ others)) (omega (arith, both)) (omega (arith, both))
    one

pub returns-in_err-make_all_variables-clause-cells : goal.returns-in_err-make_all_variables-clause-cells
returns-in_err-make_all_variables-clause-cells g c =
    let items = c.args.block.now.operands.items in
    let others = all_operands c.args.inner.now in
    let both = news_both items others in
    let one = rw c.as_slice.ensures.value at c.make_variables.ensures.cells in
    λ _. grows_most (cells_of_block c.args.block.now + cells_of_blocks c.args.inner.now + news (items ++ others)) (news (items ++ others)) (omega (arith, both)) (omega (arith, both))
    (grows_on one c.make_all_variables.ensures.cells)

pub returns-in_err-write_all-clause-cells : goal.returns-in_err-write_all-clause-cells
returns-in_err-write_all-clause-cells g c =
    let items = c.args.block.now.operands.items in
    let others = all_operands c.args.inner.now in
    let both = news_both items others in
    let one = rw c.as_slice.ensures.value at c.make_variables.ensures.cells in
    λ counts. grows_most (cells_of_block c.args.block.now + cells_of_blocks c.args.inner.now + news (items ++ others)) (news (items ++ others)) (omega (arith, both)) (omega (arith, both))
    (grows_on (grows_on one c.make_all_variables.ensures.cells) (c.write_all.ensures.cells counts))

pub returns-in_err-made-clause-cells : goal.returns-in_err-made-clause-cells
returns-in_err-made-clause-cells g c =
    let items = c.args.block.now.operands.items in
    let others = all_operands c.args.inner.now in
    let both = news_both items others in
    let one = rw c.as_slice.ensures.value at c.make_variables.ensures.cells in
    λ counts. grows_most (cells_of_block c.args.block.now + cells_of_blocks c.args.inner.now + news (items ++ others)) (news (items ++ others)) (omega (arith, both)) (omega (arith, both))
    (grows_on (grows_on (grows_on one c.make_all_variables.ensures.cells) (c.write_all.ensures.cells counts)) (c.write_known.ensures.cells counts))

pub returns-clause-cells : goal.returns-clause-cells
returns-clause-cells g c =
    let items = c.args.block.now.operands.items in
    let others = all_operands c.args.inner.now in
    let both = news_both items others in
    let one = rw c.as_slice.ensures.value at c.make_variables.ensures.cells in
    λ counts. grows_most (cells_of_block c.args.block.now + cells_of_blocks c.args.inner.now + news (items ++ others)) (news (items ++ others)) (omega (arith, both)) (omega (arith, both))
    (grows_on (grows_on (grows_on (grows_on one c.make_all_variables.ensures.cells) (c.write_all.ensures.cells counts)) (c.write_known.ensures.cells counts)) c.unify.ensures.cells)
