use Rattle.std.proofs.Common.{◌≡◌, ◌+◌, ◌++◌, [], length, take, IfOk, sym, ap, subst, arith}
use Rattle.std.proofs.lemmas.List.{append-nil}
use Rattle.std.proofs.lemmas.List.Elements.{All-head}
use Rattle.iso_store_core.proofs.RetainLemmas.{grows_most}
use Rattle.iso_code.specs.Loaded.{IsSound, all_operands}
use Rattle.iso_writing.specs.Pushing.{news, cells_of_block, cells_of_blocks}
use Rattle.iso_writing.specs.Writing.{WritesBlock}
use Rattle.iso_writing.proofs.VariableLemmas.{news_both}
use Rattle.iso_writing.proofs.writing.write_two.Goals as goal

pub write_operands-requires-clause-stands : goal.write_operands-requires-clause-stands
write_operands-requires-clause-stands g c =
    let h = c.requires.stands in
    let nil : take c.args.block.now.inner c.args.behind.now ≡ [] = ap (λ n. take n c.args.behind.now) c.requires.none in
    let marks = rw (nil, append-nil c.args.block.now.operands.items) at h.8 in
    (h.0, h.1, h.2, h.3, h.4, h.5, h.6, h.7, marks)

pub write_operands-requires-clause-sound : goal.write_operands-requires-clause-sound
write_operands-requires-clause-sound g c =
    All-head (IsSound (length (g.S.Store.names c.args.store.now)) (length c.args.environment.now) (length c.args.compounds.now)) c.args.block.now (take c.args.block.now.inner c.args.behind.now) c.requires.sound

pub returns-clause-writes : goal.returns-clause-writes
returns-clause-writes g c =
    let nil : take c.args.block.now.inner c.args.behind.now ≡ [] = ap (λ n. take n c.args.behind.now) c.requires.none in
    subst (λ bs. IfOk c.write_operands.result (λ answer. WritesBlock (g.S.Store.names c.args.store.now) c.args.block.now bs c.args.first
    (g.S.Store.present c.args.store.now) (g.S.Store.present c.write_operands.new.store) c.args.variable
    c.args.environment.now c.write_operands.new.environment c.args.compounds.now c.write_operands.new.compounds answer))
    (sym nil) c.write_operands.ensures.writes

pub returns-clause-cells : goal.returns-clause-cells
returns-clause-cells g c =
    let items = c.args.block.now.operands.items in
    let inner = take c.args.block.now.inner c.args.behind.now in
    let others = all_operands inner in
    let both = news_both items others in
    λ _. grows_most (cells_of_block c.args.block.now + cells_of_blocks inner + news (items ++ others)) (news (items ++ others)) (omega (arith, both)) (omega (arith, both))
    c.write_operands.ensures.cells
