use Rattle.std.proofs.Common.{length, take, sym}
use Rattle.std.proofs.lemmas.List.Elements.{All-head}
use Rattle.iso_code.specs.Loaded.{IsSound}
use Rattle.iso_writing.proofs.writing.write_group.Goals as goal

pub write_two-requires-clause-same : goal.write_two-requires-clause-same
write_two-requires-clause-same g c =
    let sound = All-head (IsSound (length (g.S.Store.names c.args.store.now)) (length c.args.environment.now) (length c.args.compounds.now)) c.args.block.now (take c.args.block.now.inner c.args.behind.now) c.requires.sound in
    let pair = rw c.in-NewNew.is at sound.pair in
    sym (pair.2)

pub write_two-requires-clause-none : goal.write_two-requires-clause-none
write_two-requires-clause-none g c =
    let sound = All-head (IsSound (length (g.S.Store.names c.args.store.now)) (length c.args.environment.now) (length c.args.compounds.now)) c.args.block.now (take c.args.block.now.inner c.args.behind.now) c.requires.sound in
    let pair = rw c.in-NewNew.is at sound.pair in
    pair.0

pub write_two-requires-clause-narrow : goal.write_two-requires-clause-narrow
write_two-requires-clause-narrow g c =
    let sound = All-head (IsSound (length (g.S.Store.names c.args.store.now)) (length c.args.environment.now) (length c.args.compounds.now)) c.args.block.now (take c.args.block.now.inner c.args.behind.now) c.requires.sound in
    let pair = rw c.in-NewNew.is at sound.pair in
    pair.1

pub write_two-requires-in-OldNew-clause-same : goal.write_two-requires-in-OldNew-clause-same
write_two-requires-in-OldNew-clause-same g c =
    let sound = All-head (IsSound (length (g.S.Store.names c.args.store.now)) (length c.args.environment.now) (length c.args.compounds.now)) c.args.block.now (take c.args.block.now.inner c.args.behind.now) c.requires.sound in
    let pair = rw c.in-OldNew.is at sound.pair in
    sym (pair.2)

pub write_two-requires-in-OldNew-clause-none : goal.write_two-requires-in-OldNew-clause-none
write_two-requires-in-OldNew-clause-none g c =
    let sound = All-head (IsSound (length (g.S.Store.names c.args.store.now)) (length c.args.environment.now) (length c.args.compounds.now)) c.args.block.now (take c.args.block.now.inner c.args.behind.now) c.requires.sound in
    let pair = rw c.in-OldNew.is at sound.pair in
    pair.0

pub write_two-requires-in-OldNew-clause-narrow : goal.write_two-requires-in-OldNew-clause-narrow
write_two-requires-in-OldNew-clause-narrow g c =
    let sound = All-head (IsSound (length (g.S.Store.names c.args.store.now)) (length c.args.environment.now) (length c.args.compounds.now)) c.args.block.now (take c.args.block.now.inner c.args.behind.now) c.requires.sound in
    let pair = rw c.in-OldNew.is at sound.pair in
    pair.1

pub write_two-requires-in-NewOld-clause-same : goal.write_two-requires-in-NewOld-clause-same
write_two-requires-in-NewOld-clause-same g c =
    let sound = All-head (IsSound (length (g.S.Store.names c.args.store.now)) (length c.args.environment.now) (length c.args.compounds.now)) c.args.block.now (take c.args.block.now.inner c.args.behind.now) c.requires.sound in
    let pair = rw c.in-NewOld.is at sound.pair in
    sym (pair.2)

pub write_two-requires-in-NewOld-clause-none : goal.write_two-requires-in-NewOld-clause-none
write_two-requires-in-NewOld-clause-none g c =
    let sound = All-head (IsSound (length (g.S.Store.names c.args.store.now)) (length c.args.environment.now) (length c.args.compounds.now)) c.args.block.now (take c.args.block.now.inner c.args.behind.now) c.requires.sound in
    let pair = rw c.in-NewOld.is at sound.pair in
    pair.0

pub write_two-requires-in-NewOld-clause-narrow : goal.write_two-requires-in-NewOld-clause-narrow
write_two-requires-in-NewOld-clause-narrow g c =
    let sound = All-head (IsSound (length (g.S.Store.names c.args.store.now)) (length c.args.environment.now) (length c.args.compounds.now)) c.args.block.now (take c.args.block.now.inner c.args.behind.now) c.requires.sound in
    let pair = rw c.in-NewOld.is at sound.pair in
    pair.1
