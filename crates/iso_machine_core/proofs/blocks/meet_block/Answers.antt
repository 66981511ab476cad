use Rattle.std.proofs.Common.{rules, ◌≡◌, length, refl}
use Rattle.std.proofs.lemmas.Result.{err_from_is_err_and}
use Rattle.iso_atoms.specs.Texts.{text_at}
use Rattle.iso_machine_core.proofs.BlockLemmas.{register_is, begins, read_passes, read_stops, marked_group, write_passes, write_stops, missed_stops, sound_group}
use Rattle.iso_machine_core.proofs.blocks.meet_block.Goals as goal

pub open-requires-clause-word : goal.open-requires-clause-word
open-requires-clause-word g c =
    let before = c.requires.before.3 in
    (register_is (g.S.Store.names c.args.store.now) (g.S.Store.present c.args.store.now) c.args.environment.now c.args.arguments.now c.args.compounds.now
    c.requires.before.0 c.requires.before.1 c.requires.before.2 c.args.block.now.register c.word_in-word.result before.ready c.word_in-word.ensures).holds

pub read_block-requires-clause-begins : goal.read_block-requires-clause-begins
read_block-requires-clause-begins g c =
    let many : c.len.result ≡ length c.args.block.now.operands.items = search rules in
    let opened = rw (c.in-Read.is, many) at c.open.ensures in
    let t = c.requires.before.0 in let met = c.requires.before.1 in let state = c.requires.before.2 in (
      c.args.arguments.now,
      t,
      met,
      state,
      text_at (g.S.Store.names c.args.store.now) c.args.block.now.name,
      opened.2.arguments,
      begins (g.S.Store.names c.args.store.now) c.args.block.now c.args.behind.now c.args.first (g.S.Store.present c.args.store.now) (g.S.Store.present c.args.store.now)
          c.args.environment.now c.args.environment.now c.args.arguments.now c.args.compounds.now c.args.compounds.now c.word_in-word.result c.word_in-word.ensures
          c.in-Read.compound opened.0 opened.1 opened.2 t met state c.requires.before.3,
    )

pub write_group-requires-clause-stands : goal.write_group-requires-clause-stands
write_group-requires-clause-stands g c =
    let opened = rw c.in-Write.is at c.open.ensures in
    let t = c.requires.before.0 in let met = c.requires.before.1 in let state = c.requires.before.2 in
    let before = c.requires.before.3 in (
      _,
      t,
      met,
      state,
      before.ready.stands,
      refl,
      refl,
      before.numbers,
      marked_group (g.S.Store.names c.args.store.now) c.args.block.now c.args.behind.now c.args.first (g.S.Store.present c.args.store.now) (g.S.Store.present c.args.store.now)
          c.args.environment.now c.args.environment.now c.args.arguments.now c.args.compounds.now c.args.compounds.now c.word_in-word.result c.word_in-word.ensures
          c.in-Write.variable opened.0 opened.1 opened.2.0 opened.2.1 t met state before,
    )

pub write_group-requires-clause-sound : goal.write_group-requires-clause-sound
write_group-requires-clause-sound g c = sound_group _ _ _ _ c.args.block.now c.args.behind.now c.args.block.now.inner c.requires.sound

pub returns-in_err-met-in-Write-clause-cells : goal.returns-in_err-met-in-Write-clause-cells
returns-in_err-met-in-Write-clause-cells g c =
    let failed = err_from_is_err_and c.from_residual-in_err-met-in-Write.result c.from_residual-in_err-met-in-Write.ensures.1 in
    rw failed.1 c.in_err-met-in-Write.ensures.cells

pub returns-then-met-clause-passes : goal.returns-then-met-clause-passes
returns-then-met-clause-passes g c =
    let many : c.len.result ≡ length c.args.block.now.operands.items = search rules in
    let opened = rw (c.in-Read.is, many) at c.open.ensures in
    let reads = rw c.if-met.true at c.in_ok-met-in-Read.ensures.reads in
    read_passes (g.S.Store.names c.args.store.now) c.args.block.now c.args.behind.now c.args.first (g.S.Store.present c.args.store.now) (g.S.Store.present c.read_block.new.store)
    c.args.environment.now c.read_block.new.environment c.args.arguments.now c.args.compounds.now c.read_block.new.compounds c.word_in-word.result c.word_in-word.ensures
    c.in-Read.compound opened.0 opened.1 opened.2 reads

pub returns-else-met-clause-passes : goal.returns-else-met-clause-passes
returns-else-met-clause-passes g c =
    let many : c.len.result ≡ length c.args.block.now.operands.items = search rules in
    let opened = rw (c.in-Read.is, many) at c.open.ensures in
    let reads = rw c.if-met.false at c.in_ok-met-in-Read.ensures.reads in
    read_stops (g.S.Store.names c.args.store.now) c.args.block.now c.args.behind.now c.args.first (g.S.Store.present c.args.store.now) (g.S.Store.present c.read_block.new.store)
    c.args.environment.now c.read_block.new.environment c.args.arguments.now c.args.compounds.now c.read_block.new.compounds c.word_in-word.result c.word_in-word.ensures
    c.in-Read.compound opened.0 opened.1 opened.2 reads

pub returns-then-met-2-clause-passes : goal.returns-then-met-2-clause-passes
returns-then-met-2-clause-passes g c =
    let opened = rw c.in-Write.is at c.open.ensures in
    let writes = rw c.if-met-2.true at c.in_ok-met-in-Write.ensures.writes in
    write_passes (g.S.Store.names c.args.store.now) c.args.block.now c.args.behind.now c.args.first (g.S.Store.present c.args.store.now) (g.S.Store.present c.write_group.new.store)
    c.args.environment.now c.write_group.new.environment c.args.arguments.now c.args.compounds.now c.write_group.new.compounds c.word_in-word.result c.word_in-word.ensures
    c.in-Write.variable opened.0 opened.1 opened.2.0 opened.2.1 writes

pub returns-else-met-2-clause-passes : goal.returns-else-met-2-clause-passes
returns-else-met-2-clause-passes g c =
    let opened = rw c.in-Write.is at c.open.ensures in
    let writes = rw c.if-met-2.false at c.in_ok-met-in-Write.ensures.writes in
    write_stops (g.S.Store.names c.args.store.now) c.args.block.now c.args.behind.now c.args.first (g.S.Store.present c.args.store.now) (g.S.Store.present c.write_group.new.store)
    c.args.environment.now c.write_group.new.environment c.args.arguments.now c.args.compounds.now c.write_group.new.compounds c.word_in-word.result c.word_in-word.ensures
    c.in-Write.variable opened.0 opened.1 opened.2.0 opened.2.1 writes

pub returns-in-Missed-clause-passes : goal.returns-in-Missed-clause-passes
returns-in-Missed-clause-passes g c =
    let many : c.len.result ≡ length c.args.block.now.operands.items = search rules in
    let opened = rw (c.in-Missed.is, many) at c.open.ensures in
    missed_stops (g.S.Store.names c.args.store.now) c.args.block.now c.args.behind.now c.args.first (g.S.Store.present c.args.store.now) (g.S.Store.present c.args.store.now)
    c.args.environment.now c.args.environment.now c.args.arguments.now c.args.compounds.now c.args.compounds.now c.word_in-word.result c.word_in-word.ensures
    (Rattle.iso_code.specs.Standing.files c.args.environment.now c.args.arguments.now c.args.compounds.now) opened.0 opened.1
