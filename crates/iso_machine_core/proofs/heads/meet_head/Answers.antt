use Rattle.iso_code.specs.Standing.{files}
use Rattle.iso_reading.proofs.OperandLemmas.{if_ok_by}
use Rattle.iso_machine_core.proofs.HeadLemmas.{gets_ready, blocks_before, head_met, head_missed}
use Rattle.iso_machine_core.proofs.heads.meet_head.Goals as goal

pub meet_gets-requires-clause-ready : goal.meet_gets-requires-clause-ready
meet_gets-requires-clause-ready g c =
    let r = c.requires.ready in
    rw c.as_slice.ensures.value (gets_ready (g.S.Store.names c.args.store.now) c.args.head.now.gets.items c.args.head.now.blocks.items c.args.first (g.S.Store.present c.args.store.now) c.args.environment.now c.args.arguments.now c.args.compounds.now
    r.0 r.1 r.2 r.3 r.4 r.5 r.6)

pub returns-then-not-branch-clause-meets : goal.returns-then-not-branch-clause-meets
returns-then-not-branch-clause-meets g c =
    let meets = rw (c.if-not-branch.true, c.as_slice.ensures.value) at c.in_ok-meet_gets.ensures.meets in
    head_missed (g.S.Store.names c.args.store.now) c.args.head.now.gets.items c.args.head.now.blocks.items c.args.first (g.S.Store.present c.args.store.now) (g.S.Store.present c.meet_gets.new.store) (g.S.Store.present c.meet_gets.new.store)
    c.args.environment.now c.meet_gets.new.environment c.args.arguments.now c.args.compounds.now c.meet_gets.new.compounds (files c.meet_gets.new.environment c.args.arguments.now c.meet_gets.new.compounds)
    meets c.in_ok-meet_gets.ensures.compounds

pub meet_blocks-requires-clause-before : goal.meet_blocks-requires-clause-before
meet_blocks-requires-clause-before g c =
    let r = c.requires.ready in
    let meets = rw (c.if-not-branch.false, c.as_slice.ensures.value, c.in_ok-meet_gets.ensures.compounds) at c.in_ok-meet_gets.ensures.meets in
    rw (c.as_slice-blocks.ensures.value, c.in_ok-meet_gets.ensures.compounds) (
    blocks_before (g.S.Store.names c.args.store.now) c.args.head.now.gets.items c.args.head.now.blocks.items c.args.first (g.S.Store.present c.args.store.now) c.args.environment.now c.args.arguments.now c.args.compounds.now
    r.0 r.1 r.2 r.3 r.4 r.5 r.6 (g.S.Store.present c.meet_gets.new.store) c.meet_gets.new.environment meets)

pub returns-clause-meets : goal.returns-clause-meets
returns-clause-meets g c =
    let meets = rw (c.if-not-branch.false, c.as_slice.ensures.value, c.in_ok-meet_gets.ensures.compounds) at c.in_ok-meet_gets.ensures.meets in
    let blocks = rw c.as_slice-blocks.ensures.value at c.meet_blocks.ensures.meets in
    if_ok_by c.meet_blocks.result blocks (λ answer h.
    head_met (g.S.Store.names c.args.store.now) c.args.head.now.gets.items c.args.head.now.blocks.items c.args.first (g.S.Store.present c.args.store.now) (g.S.Store.present c.meet_gets.new.store) (g.S.Store.present c.meet_blocks.new.store)
    c.args.environment.now c.meet_gets.new.environment c.args.arguments.now c.args.compounds.now c.meet_gets.new.compounds (files c.meet_blocks.new.environment c.args.arguments.now c.meet_blocks.new.compounds)
    answer meets (g.S.Store.names c.meet_gets.new.store) c.in_ok-meet_gets.ensures.rest.names c.in_ok-meet_gets.ensures.compounds h)
