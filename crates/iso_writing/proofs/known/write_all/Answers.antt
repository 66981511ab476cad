use Rattle.std.proofs.Common.{◌≡◌, ◌+◌, ◌-◌, ◌∷◌, [], ◌++◌, length, drop, refl, ap, ◌∙◌, arith}
use Rattle.std.proofs.lemmas.List.{drop_all, length_push, length-reverse}
use Rattle.std.proofs.lemmas.Iterator.Adapters.{YieldsList-from_rev_slice}
use Rattle.std.proofs.lemmas.Iterator.Consumers.{YieldsList-end}
use Rattle.std.proofs.lemmas.List.Elements.{All-weaker}
use Rattle.iso_store_core.proofs.RetainLemmas.{grows_same, grows_on, grows_most, retains_all_on}
use Rattle.iso_code.specs.Loaded.{IsSound, IsOfCompound}
use Rattle.iso_writing.specs.Pushing.{IsHeld, cells_of_blocks}
use Rattle.iso_writing.proofs.KnownLemmas.{adds_none, adds_on, at_place, operands_at, held_with, turned, made_more, blocks_within}
use Rattle.iso_writing.proofs.known.write_all.Goals as goal

pub loop-block-init : goal.loop-block-init
loop-block-init g c =
    let blocks = c.args.blocks.now in
    let none : drop (length blocks - 0) blocks ≡ [] = drop_all (length blocks - 0) blocks (omega arith) in
    record {
      made = rw none (λ own by next low met rs known are_met. known);
      count = refl;
      hold = c.requires.hold;
      adds = adds_none (g.S.Store.present c.args.store.now);
      cells = λ counts. rw none (grows_same 0 0 refl);
      rest = record { names = refl; marks = λ m p h. h };
    }

pub write_one-requires-clause-sound : goal.write_one-requires-clause-sound
write_one-requires-clause-sound g c =
    let blocks = c.args.blocks.now in
    let t = turned blocks (YieldsList-from_rev_slice blocks cc) c.loop-block.yielded _ c.loop-block.yielded_by _ _ c.in-Some.block c.in-Some.is c.next.ensures.steps in
    rw (c.loop-block.invariant.rest.names, c.loop-block.invariant.count) (at_place (IsSound (length (g.S.Store.names c.args.store.now)) (length c.args.environment.now) (length c.args.compounds.now)) blocks _ c.in-Some.block.now t.0 t.1 c.requires.sound)

pub write_one-requires-clause-compound : goal.write_one-requires-clause-compound
write_one-requires-clause-compound g c =
    let blocks = c.args.blocks.now in
    let t = turned blocks (YieldsList-from_rev_slice blocks cc) c.loop-block.yielded _ c.loop-block.yielded_by _ _ c.in-Some.block c.in-Some.is c.next.ensures.steps in
    rw c.loop-block.invariant.count (at_place (IsOfCompound (length c.args.compounds.now)) blocks _ c.in-Some.block.now t.0 t.1 c.requires.compounds)

pub write_one-requires-clause-held : goal.write_one-requires-clause-held
write_one-requires-clause-held g c =
    let blocks = c.args.blocks.now in
    let t = turned blocks (YieldsList-from_rev_slice blocks cc) c.loop-block.yielded _ c.loop-block.yielded_by _ _ c.in-Some.block c.in-Some.is c.next.ensures.steps in
    let before = c.loop-block.invariant in
    All-weaker (IsHeld (g.S.Store.present c.args.store.now) c.args.environment.now []) (IsHeld (g.S.Store.present c.loop-block.store) c.args.environment.now c.loop-block.compounds)
    (λ operand held. held_with c.args.environment.now c.loop-block.compounds operand before.adds.words before.hold held) c.in-Some.block.now.operands.items
    (operands_at (IsHeld (g.S.Store.present c.args.store.now) c.args.environment.now []) blocks _ c.in-Some.block.now t.0 t.1 c.requires.held)

pub loop-block-preserved : goal.loop-block-preserved
loop-block-preserved g c =
    let names = g.S.Store.names c.args.store.now in
    let blocks = c.args.blocks.now in
    let n = length c.loop-block.yielded in
    let t = turned blocks (YieldsList-from_rev_slice blocks cc) c.loop-block.yielded _ c.loop-block.yielded_by _ _ c.in-Some.block c.in-Some.is c.next.ensures.steps in
    let before = c.loop-block.invariant in
    let split : drop (length blocks - length (c.loop-block.yielded ++ c.in-Some.block ∷ [])) blocks ≡ c.in-Some.block.now ∷ drop (length blocks - n) blocks =
    ap (λ k. drop (length blocks - k) blocks) (length_push c.loop-block.yielded c.in-Some.block) ∙ t.2 in
    let one = rw before.rest.names at c.in_ok-write_one.ensures.made in
    record {
      made = rw split (made_more names c.in-Some.block.now (drop (length blocks - n) blocks) (g.S.Store.present c.args.store.now) (g.S.Store.present c.loop-block.store) (g.S.Store.present c.write_one.new.store)
          c.args.environment.now c.args.compounds.now c.loop-block.compounds c.write_one.new.compounds before.made one);
      count = c.write_one.ensures.count ∙ before.count;
      hold = c.in_ok-write_one.ensures.hold before.hold;
      adds = adds_on before.adds c.in_ok-write_one.ensures.adds;
      cells = λ counts. rw split (grows_most _ 0 (omega arith) (omega arith) (grows_on (before.cells counts) (c.write_one.ensures.cells counts)));
      rest = retains_all_on before.rest c.write_one.ensures.rest;
    }

pub returns-in_err-write_one-clause-cells : goal.returns-in_err-write_one-clause-cells
returns-in_err-write_one-clause-cells g c counts =
    let blocks = c.args.blocks.now in
    let n = length c.loop-block.yielded in
    let t = turned blocks (YieldsList-from_rev_slice blocks cc) c.loop-block.yielded _ c.loop-block.yielded_by _ _ c.in-Some.block c.in-Some.is c.next.ensures.steps in
    let whole = ap cells_of_blocks t.2 in
    let within = blocks_within blocks (length blocks - (n + 1)) in
    grows_most _ 0 (omega (arith, whole, within)) (omega arith) (grows_on {a = cells_of_blocks (drop (length blocks - n) blocks)} (c.loop-block.invariant.cells counts) (c.write_one.ensures.cells counts))

pub returns-in_err-write_one-clause-rest : goal.returns-in_err-write_one-clause-rest
returns-in_err-write_one-clause-rest g c = retains_all_on c.loop-block.invariant.rest c.write_one.ensures.rest

pub returns-clause-made : goal.returns-clause-made
returns-clause-made g c =
    let blocks = c.args.blocks.now in
    let end = YieldsList-end (YieldsList-from_rev_slice blocks cc) c.loop-block.yielded _ c.loop-block.yielded_by _ _ c.in-None.is c.next.ensures.steps in
    let all : length blocks - length c.loop-block.yielded ≡ 0 = omega (arith, end.1, length-reverse blocks) in
    rw all at c.loop-block.invariant.made

pub returns-clause-hold : goal.returns-clause-hold
returns-clause-hold g c = c.loop-block.invariant.hold

pub returns-clause-adds : goal.returns-clause-adds
returns-clause-adds g c = c.loop-block.invariant.adds

pub returns-clause-cells : goal.returns-clause-cells
returns-clause-cells g c counts =
    grows_most _ 0 (blocks_within c.args.blocks.now (length c.args.blocks.now - length c.loop-block.yielded)) (omega arith) (c.loop-block.invariant.cells counts)

pub returns-clause-rest : goal.returns-clause-rest
returns-clause-rest g c = c.loop-block.invariant.rest
