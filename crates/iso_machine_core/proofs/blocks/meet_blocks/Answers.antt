use Rattle.std.proofs.Common.{◌+◌, ◌∷◌, length, drop, refl, sym, ap, ◌∙◌, arith}
use Rattle.std.proofs.lemmas.List.{drop_more, take_rest}
use Rattle.iso_store_core.proofs.RetainLemmas.{retains_all_on}
use Rattle.iso_code.specs.Standing.{files}
use Rattle.iso_reading.proofs.LoopLemmas.{carried}
use Rattle.iso_machine_core.proofs.LoopLemmas.{meets_on, meets_none, next_sound, next_before, cells_next, cells_all, length_rest}
use Rattle.iso_machine_core.proofs.blocks.meet_blocks.Goals as goal

pub meet_block-requires-clause-sound : goal.meet_block-requires-clause-sound
meet_block-requires-clause-sound g c =
    let bs = c.args.blocks.now in
    let i = c.loop-index.index in
    let split = drop_more bs i c.index-blocks-index.result c.loop-index-test.true ∙ ap (λ x. x ∷ drop (i + 1) bs) (sym c.index-blocks-index.is) in
    let inv = c.loop-index.invariant in
    next_sound bs i c.index-blocks-index.result split _ _ _ _ _ _ _ (ap length inv.rest.names) inv.environment inv.compounds c.requires.sound

pub meet_block-requires-clause-before : goal.meet_block-requires-clause-before
meet_block-requires-clause-before g c =
    let bs = c.args.blocks.now in
    let i = c.loop-index.index in
    let split = drop_more bs i c.index-blocks-index.result c.loop-index-test.true ∙ ap (λ x. x ∷ drop (i + 1) bs) (sym c.index-blocks-index.is) in
    next_before bs i c.index-blocks-index.result split (g.S.Store.names c.args.store.now) c.args.first (g.S.Store.present c.args.store.now) (g.S.Store.present c.loop-index.store)
    (files c.args.environment.now c.args.arguments.now c.args.compounds.now) (files c.loop-index.environment c.args.arguments.now c.loop-index.compounds)
    c.loop-index.invariant.meets c.requires.before.0 c.requires.before.1 c.requires.before.2 c.requires.before.3

pub returns-in_err-passed-clause-cells : goal.returns-in_err-passed-clause-cells
returns-in_err-passed-clause-cells g c =
    let bs = c.args.blocks.now in
    let i = c.loop-index.index in
    let b = c.index-blocks-index.result in
    let split = drop_more bs i b c.loop-index-test.true ∙ ap (λ x. x ∷ drop (i + 1) bs) (sym c.index-blocks-index.is) in
    let cells = c.in_err-passed.ensures.cells in
    λ counts. cells_all bs (i + (1 + b.inner)) (cells_next bs i b split b.inner _ (take_rest bs (i + 1)) (c.loop-index.invariant.cells counts) (cells counts))

pub returns-in_default-clause-meets : goal.returns-in_default-clause-meets
returns-in_default-clause-meets g c =
    let bs = c.args.blocks.now in
    let i = c.loop-index.index in
    let b = c.index-blocks-index.result in
    let split = drop_more bs i b c.loop-index-test.true ∙ ap (λ x. x ∷ drop (i + 1) bs) (sym c.index-blocks-index.is) in
    let inv = c.loop-index.invariant in
    let passes = rw (c.in_default.is, take_rest bs (i + 1)) at c.in_ok-passed.ensures.passes in
    meets_none (g.S.Store.names c.args.store.now) bs c.args.first (g.S.Store.present c.args.store.now) (g.S.Store.present c.loop-index.store) (g.S.Store.present c.meet_block.new.store)
    (files c.args.environment.now c.args.arguments.now c.args.compounds.now) (files c.loop-index.environment c.args.arguments.now c.loop-index.compounds) (files c.meet_block.new.environment c.args.arguments.now c.meet_block.new.compounds)
    i b split (g.S.Store.names c.loop-index.store) inv.rest.names inv.meets passes

pub returns-in_default-clause-cells : goal.returns-in_default-clause-cells
returns-in_default-clause-cells g c =
    let bs = c.args.blocks.now in
    let i = c.loop-index.index in
    let b = c.index-blocks-index.result in
    let split = drop_more bs i b c.loop-index-test.true ∙ ap (λ x. x ∷ drop (i + 1) bs) (sym c.index-blocks-index.is) in
    let cells = rw c.in_default.is at c.in_ok-passed.ensures.cells in
    λ counts. cells_all bs (i + (1 + b.inner)) (cells_next bs i b split b.inner _ (take_rest bs (i + 1)) (c.loop-index.invariant.cells counts) (cells counts))

pub loop-index-preserved : goal.loop-index-preserved
loop-index-preserved g c =
    let bs = c.args.blocks.now in
    let i = c.loop-index.index in
    let b = c.index-blocks-index.result in
    let split = drop_more bs i b c.loop-index-test.true ∙ ap (λ x. x ∷ drop (i + 1) bs) (sym c.index-blocks-index.is) in
    let inv = c.loop-index.invariant in
    let passes = rw (c.in-Some.is, take_rest bs (i + 1)) at c.in_ok-passed.ensures.passes in
    let within = rw (c.in-Some.is, take_rest bs (i + 1)) at c.in_ok-passed.ensures.within in
    let carries = rw c.in-Some.is at c.in_ok-passed.ensures.carries in
    let cells = rw c.in-Some.is at c.in_ok-passed.ensures.cells in
    record {
      inside = (let many = length_rest bs (i + 1) (omega (arith, c.loop-index-test.true)) in omega (arith, within, many));
      meets = meets_on (g.S.Store.names c.args.store.now) bs c.args.first (g.S.Store.present c.args.store.now) (g.S.Store.present c.loop-index.store) (g.S.Store.present c.meet_block.new.store)
          (files c.args.environment.now c.args.arguments.now c.args.compounds.now) (files c.loop-index.environment c.args.arguments.now c.loop-index.compounds) (files c.meet_block.new.environment c.args.arguments.now c.meet_block.new.compounds)
          i b split (g.S.Store.names c.loop-index.store) inv.rest.names c.in-Some.passed inv.meets passes;
      carries = carried inv.carries (carries refl);
      environment = c.meet_block.ensures.environment ∙ inv.environment;
      compounds = c.meet_block.ensures.compounds ∙ inv.compounds;
      cells = λ counts. cells_next bs i b split c.in-Some.passed _ (take_rest bs (i + 1)) (inv.cells counts) (cells counts);
      rest = retains_all_on inv.rest c.meet_block.ensures.rest;
    }
