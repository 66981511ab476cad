use Rattle.std.proofs.Common.{◌≡◌, ◌+◌, [], ◌∷◌, ◌++◌, length, take, refl, sym, ap, ◌∙◌, arith}
use Rattle.std.proofs.lemmas.List.{take_all, length_push}
use Rattle.iso_store_core.proofs.RetainLemmas.{grows_same, grows_on, grows_most, retains_all_on}
use Rattle.iso_code.specs.Loaded.{IsInside, IsMet, part_at}
use Rattle.iso_writing.specs.Pushing.{IsHeld}
use Rattle.iso_writing.proofs.KnownLemmas.{adds_none, adds_on, known_on, held_on, at_place, pushed_more}
use Rattle.iso_writing.proofs.VariableLemmas.{next_taken}
use Rattle.iso_writing.proofs.known.push_all_known.Goals as goal

pub loop-operand-init : goal.loop-operand-init
loop-operand-init g c = record {
  come = ([], g.met.S.Cells.none c.args.store.now, refl);
  pushed = λ own by next low met rs known are_met. record { terms = []; are = g.met.S.Cells.none c.args.store.now; many_are = refl; same = refl };
  adds = adds_none (g.S.Store.present c.args.store.now);
  cells = grows_same 0 0 refl;
  rest = record { names = refl; marks = λ m p h. h };
}

pub push_known-requires-clause-inside : goal.push_known-requires-clause-inside
push_known-requires-clause-inside g c =
    rw c.loop-operand.invariant.rest.names (at_place (IsInside (length (g.S.Store.names c.args.store.now)) (length c.args.environment.now) (length c.args.compounds.now)) c.args.operands.now c.loop-operand.operand-index c.operand-item.result c.loop-operand-test.true c.operand-item.is c.requires.inside)

pub push_known-requires-clause-held : goal.push_known-requires-clause-held
push_known-requires-clause-held g c =
    held_on c.args.environment.now c.args.compounds.now c.operand-item.result c.loop-operand.invariant.adds.words
    (at_place (IsHeld (g.S.Store.present c.args.store.now) c.args.environment.now c.args.compounds.now) c.args.operands.now c.loop-operand.operand-index c.operand-item.result c.loop-operand-test.true c.operand-item.is c.requires.held)

pub returns-in_err-push_known-clause-cells : goal.returns-in_err-push_known-clause-cells
returns-in_err-push_known-clause-cells g c =
    let inside = c.loop-operand-test.true in
    grows_most _ 0 (omega (arith, inside)) (omega arith) (grows_on c.loop-operand.invariant.cells c.push_known.ensures.cells)

pub returns-in_err-push_known-clause-rest : goal.returns-in_err-push_known-clause-rest
returns-in_err-push_known-clause-rest g c = retains_all_on c.loop-operand.invariant.rest c.push_known.ensures.rest

pub loop-operand-preserved : goal.loop-operand-preserved
loop-operand-preserved g c =
    let before = c.loop-operand.invariant in
    let comes = c.in_ok-push_known.ensures.comes in
    let i = c.loop-operand.operand-index in
    record {
      come = (before.come.0 ++ comes.0 ∷ [], comes.1 before.come.0 before.come.1, length_push before.come.0 comes.0 ∙ ap (λ n. n + 1) before.come.2);
      pushed = λ own by next low met rs known are_met.
          (let is_met = at_place (IsMet met) c.args.operands.now c.loop-operand.operand-index c.operand-item.result c.loop-operand-test.true c.operand-item.is are_met in
          let one = rw before.rest.names at (c.in_ok-push_known.ensures.pushed own by next low met rs (known_on before.adds.words known) is_met) in
          rw (next_taken c.args.operands.now i c.operand-item.result c.loop-operand-test.true c.operand-item.is)
          (pushed_more g.S.Cells.pushed own by next rs (part_at (g.S.Store.names c.args.store.now) low) c.loop-operand.store c.push_known.new.store (take i c.args.operands.now) c.operand-item.result i
          (before.pushed own by next low met rs known are_met) one));
      adds = adds_on before.adds c.in_ok-push_known.ensures.adds;
      cells = grows_on before.cells c.push_known.ensures.cells;
      rest = retains_all_on before.rest c.push_known.ensures.rest;
    }

pub returns-clause-come : goal.returns-clause-come
returns-clause-come g c =
    let all : c.loop-operand.operand-index ≡ length c.args.operands.now = omega (arith, c.loop-operand-test.false, c.loop-operand.auto.operand-index-end) in
    rw (sym all) c.loop-operand.invariant.come

pub returns-clause-pushed : goal.returns-clause-pushed
returns-clause-pushed g c own by next low met rs known are_met =
    let all : c.loop-operand.operand-index ≡ length c.args.operands.now = omega (arith, c.loop-operand-test.false, c.loop-operand.auto.operand-index-end) in
    let whole = rw (take_all c.loop-operand.operand-index c.args.operands.now (omega (arith, all))) at (c.loop-operand.invariant.pushed own by next low met rs known are_met) in
    rw (sym all) whole

pub returns-clause-adds : goal.returns-clause-adds
returns-clause-adds g c = c.loop-operand.invariant.adds

pub returns-clause-cells : goal.returns-clause-cells
returns-clause-cells g c = grows_most _ 0 c.loop-operand.auto.operand-index-end (omega arith) c.loop-operand.invariant.cells

pub returns-clause-rest : goal.returns-clause-rest
returns-clause-rest g c = c.loop-operand.invariant.rest
