use Rattle.std.proofs.Common.{◌≡◌, ◌+◌, length, take, refl, ◌∙◌, arith}
use Rattle.std.proofs.lemmas.List.{take_all, take_more_set, length-set}
use Rattle.std.proofs.lemmas.List.Elements.{All-nil}
use Rattle.iso_store_core.specs.Presents.{Holds}
use Rattle.iso_store_core.proofs.RetainLemmas.{grows_same, grows_on, grows_most, retains_all_on}
use Rattle.iso_code.specs.Loaded.{IsInside, IsMet, part_at}
use Rattle.iso_writing.specs.Pushing.{IsHeld}
use Rattle.iso_writing.proofs.KnownLemmas.{adds_none, adds_on, known_on, held_on, at_place, place_is, place_holds, variable_inside, words_more, hold_more, cells_more}
use Rattle.iso_code.proofs.CellLemmas.{taken_most}
use Rattle.iso_writing.proofs.wide.known_each.Goals as goal
use Rattle.iso_writing.proofs.wide.known_each.Goals.{in_default+in_ok-constant_or_compound-in_default, in-New2}

pub loop-index-init : goal.loop-index-init
loop-index-init g c = record {
  inside = omega arith;
  room = c.requires.room;
  words = λ own by next low met rs known are_met. refl;
  hold = All-nil (Holds (g.S.Store.present c.args.store.now));
  adds = adds_none (g.S.Store.present c.args.store.now);
  cells = λ counts. grows_same 0 0 refl;
  rest = record { names = refl; marks = λ m p h. h };
}

pub constant_or_compound-requires-clause-inside : goal.constant_or_compound-requires-clause-inside
constant_or_compound-requires-clause-inside g c =
    rw c.loop-index.invariant.rest.names (at_place (IsInside (length (g.S.Store.names c.args.store.now)) (length c.args.environment.now) (length c.args.compounds.now)) c.args.operands.now c.loop-index.index c.index-operands-index.result c.loop-index-test.true c.index-operands-index.is c.requires.inside)

pub constant_or_compound-requires-clause-held : goal.constant_or_compound-requires-clause-held
constant_or_compound-requires-clause-held g c =
    held_on c.args.environment.now c.args.compounds.now c.index-operands-index.result c.loop-index.invariant.adds.words
    (at_place (IsHeld (g.S.Store.present c.args.store.now) c.args.environment.now c.args.compounds.now) c.args.operands.now c.loop-index.index c.index-operands-index.result c.loop-index-test.true c.index-operands-index.is c.requires.held)

pub returns-in_err-constant_or_compound-in_default-clause-cells : goal.returns-in_err-constant_or_compound-in_default-clause-cells
returns-in_err-constant_or_compound-in_default-clause-cells g c counts =
    let f = part_at (g.S.Store.names c.args.store.now) 0 in
    let one = rw c.loop-index.invariant.rest.names at (c.constant_or_compound.ensures.cells counts) in
    let more = cells_more f c.args.operands.now c.loop-index.index c.index-operands-index.result c.loop-index-test.true c.index-operands-index.is in
    let within = taken_most f c.args.operands.now (c.loop-index.index + 1) in
    grows_most _ 0 (omega (arith, more, within)) (omega arith) (grows_on (c.loop-index.invariant.cells counts) one)

pub returns-in_err-constant_or_compound-in_default-clause-rest : goal.returns-in_err-constant_or_compound-in_default-clause-rest
returns-in_err-constant_or_compound-in_default-clause-rest g c = retains_all_on c.loop-index.invariant.rest c.constant_or_compound.ensures.rest

pub loop-index-preserved : goal.loop-index-preserved
loop-index-preserved g c =
    let before = c.loop-index.invariant in
    let names = g.S.Store.names c.args.store.now in
    let operands = c.args.operands.now in
    let i = c.loop-index.index in
    let operand = c.index-operands-index.result in
    let is = c.index-operands-index.is in
    let test = c.loop-index-test.true in
    let room = before.room in
    let ws = take i c.loop-index.words in
    elim c.match-operands-index.branch [
      | in_default+in_ok-constant_or_compound-in_default v ↦
          (let w = v.in_ok-constant_or_compound-in_default.field-0 in
          let adds = v.in_ok-constant_or_compound-in_default.ensures.adds in
          let more = take_more_set c.loop-index.words i w (omega (arith, test, room)) in
          rw (v.store-is, v.words-is) (record {
            inside = omega (arith, test);
            room = length-set c.loop-index.words i w ∙ room;
            words = λ own by next low met rs known are_met.
                (let is_met = at_place (IsMet met) operands i operand test is are_met in
                let one = rw before.rest.names at (v.in_ok-constant_or_compound-in_default.ensures.word own by next low met rs (known_on before.adds.words known) is_met) in
                rw more (words_more own by next low rs names ws w operands i operand test is adds.words before.hold (before.words own by next low met rs known are_met) one));
            hold = rw more (hold_more ws w adds.words before.hold v.in_ok-constant_or_compound-in_default.ensures.holds);
            adds = adds_on before.adds adds;
            cells = λ counts.
                (let one = rw before.rest.names at (v.constant_or_compound.ensures.cells counts) in
                let more_cells = cells_more (part_at names 0) operands i operand test is in
                grows_most _ 0 (omega (arith, more_cells)) (omega arith) (grows_on (before.cells counts) one));
            rest = retains_all_on before.rest v.constant_or_compound.ensures.rest;
          }))
      | in-New2 v ↦
          (let w = v.index-environment-variable.result in
          let p = g.S.Store.present c.loop-index.store in
          let sound = at_place (IsInside (length names) (length c.args.environment.now) (length c.args.compounds.now)) operands i operand test is c.requires.inside in
          let inside = variable_inside (length names) (length c.args.environment.now) (length c.args.compounds.now) v.in-New.variable operand v.in-New.is sound in
          let held = held_on c.args.environment.now c.args.compounds.now operand before.adds.words
          (at_place (IsHeld (g.S.Store.present c.args.store.now) c.args.environment.now c.args.compounds.now) operands i operand test is c.requires.held) in
          let adds = adds_none p in
          let more = take_more_set c.loop-index.words i w (omega (arith, test, room)) in
          let more_cells = cells_more (part_at names 0) operands i operand test is in
          rw (v.store-is, v.words-is) (record {
            inside = omega (arith, test);
            room = length-set c.loop-index.words i w ∙ room;
            words = λ own by next low met rs known are_met.
                (let is_met = at_place (IsMet met) operands i operand test is are_met in
                let one = place_is p own by next low met c.args.environment.now c.args.compounds.now rs (known_on before.adds.words known) names
                v.in-New.variable w operand inside v.index-environment-variable.is v.in-New.is is_met in
                rw more (words_more own by next low rs names ws w operands i operand test is adds.words before.hold (before.words own by next low met rs known are_met) one));
            hold = rw more (hold_more ws w adds.words before.hold
                (place_holds p c.args.environment.now c.args.compounds.now v.in-New.variable w operand inside v.index-environment-variable.is v.in-New.is held));
            adds = before.adds;
            cells = λ counts. grows_most _ 0 (omega (arith, more_cells)) (omega arith) (before.cells counts);
            rest = before.rest;
          }))
    ]

pub returns-clause-words : goal.returns-clause-words
returns-clause-words g c own by next low met rs known are_met =
    let room = c.loop-index.invariant.room in
    let below = c.loop-index.invariant.inside in
    let all : c.loop-index.index ≡ length c.args.operands.now = omega (arith, c.loop-index-test.false, below) in
    rw (take_all c.loop-index.index c.args.operands.now (omega (arith, all)), take_all c.loop-index.index c.loop-index.words (omega (arith, all, room))) at (c.loop-index.invariant.words own by next low met rs known are_met)

pub returns-clause-hold : goal.returns-clause-hold
returns-clause-hold g c =
    let room = c.loop-index.invariant.room in
    let below = c.loop-index.invariant.inside in
    rw (take_all c.loop-index.index c.loop-index.words (omega (arith, c.loop-index-test.false, below, room))) at c.loop-index.invariant.hold

pub returns-clause-cells : goal.returns-clause-cells
returns-clause-cells g c counts =
    let below = c.loop-index.invariant.inside in
    let all : c.loop-index.index ≡ length c.args.operands.now = omega (arith, c.loop-index-test.false, below) in
    rw (take_all c.loop-index.index c.args.operands.now (omega (arith, all))) at (c.loop-index.invariant.cells counts)
