use Rattle.std.proofs.Common.{◌+◌, ◌∷◌, [], length, take, drop, ◌∙◌, arith}
use Rattle.std.proofs.lemmas.List.{take_all}
use Rattle.iso_code.specs.Loaded.{part_at, met_behind}
use Rattle.iso_store_core.proofs.RetainLemmas.{retains_all_on, grows_on, grows_most}
use Rattle.iso_writing.specs.Pushing.{news}
use Rattle.iso_writing.proofs.VariableLemmas.{next_taken, next_parted, marks_on, begins_with_on, makes_both, widens_on, news_both, news_within}
use Rattle.iso_writing.proofs.KnownLemmas.{pushed_more}
use Rattle.iso_writing.proofs.flat.push_all_met.Goals as goal

pub push_met-requires-clause-stands : goal.push_met-requires-clause-stands
push_met-requires-clause-stands g c =
    let i = c.loop-operand.operand-index in
    begins_with_on (g.S.Store.present c.args.store.now) (g.S.Store.present c.loop-operand.store) (take i c.args.operands.now) (c.operand-item.result ∷ []) (drop (i + 1) c.args.operands.now) c.args.operands.now
    (next_parted c.args.operands.now i c.operand-item.result c.loop-operand-test.true c.operand-item.is) c.args.environment.now c.loop-operand.environment c.args.compounds.now c.args.first
    c.loop-operand.invariant.makes c.requires.stands

pub returns-in_err-push_met-clause-cells : goal.returns-in_err-push_met-clause-cells
returns-in_err-push_met-clause-cells g c =
    let i = c.loop-operand.operand-index in
    let less = c.loop-operand-test.true in
    grows_most (length c.args.operands.now) (news c.args.operands.now) (omega (arith, less))
    (news_within (g.S.Store.present c.args.store.now) (g.S.Store.present c.loop-operand.store) (take i c.args.operands.now) (c.operand-item.result ∷ []) (drop (i + 1) c.args.operands.now) c.args.operands.now
    (next_parted c.args.operands.now i c.operand-item.result c.loop-operand-test.true c.operand-item.is))
    (grows_on c.loop-operand.invariant.cells c.push_met.ensures.cells)

pub loop-operand-preserved : goal.loop-operand-preserved
loop-operand-preserved g c =
    let i = c.loop-operand.operand-index in
    let p = g.S.Store.present c.args.store.now in
    let q = g.S.Store.present c.loop-operand.store in
    let r = g.S.Store.present c.push_met.new.store in
    let x = c.operand-item.result in
    let so_far = take i c.args.operands.now in
    let after = drop (i + 1) c.args.operands.now in
    let longer = next_taken c.args.operands.now i x c.loop-operand-test.true c.operand-item.is in
    let parted = next_parted c.args.operands.now i x c.loop-operand-test.true c.operand-item.is in
    record {
      makes = rw longer (makes_both p q r so_far (x ∷ []) c.args.first c.args.environment.now c.loop-operand.environment c.push_met.new.environment
          c.loop-operand.invariant.makes c.in_ok-push_met.ensures.makes);
      pushed = λ arguments t met state stands begins marks.
          (let known = marks_on p q so_far (x ∷ []) after c.args.operands.now parted met marks in
          let near = c.loop-operand.invariant.makes arguments c.args.compounds.now t met state stands begins known.0 in
          let one = c.in_ok-push_met.ensures.pushed arguments t (met_behind met so_far) state near.0 begins known.1 in
          rw longer (pushed_more g.S.Cells.pushed p.substitution state.subst c.args.first state.registers (part_at (g.S.Store.names c.args.store.now) t.low) c.loop-operand.store c.push_met.new.store so_far x i
          (c.loop-operand.invariant.pushed arguments t met state stands begins marks)
          (rw (c.loop-operand.invariant.widens.substitution, c.loop-operand.invariant.rest.names) at one)));
      widens = widens_on c.loop-operand.invariant.widens c.in_ok-push_met.ensures.widens;
      count = c.push_met.ensures.count ∙ c.loop-operand.invariant.count;
      cells = rw (longer, news_both so_far (x ∷ [])) (grows_on c.loop-operand.invariant.cells c.push_met.ensures.cells);
      rest = retains_all_on c.loop-operand.invariant.rest c.push_met.ensures.rest;
    }

pub returns-clause-makes : goal.returns-clause-makes
returns-clause-makes g c =
    let all = take_all c.loop-operand.operand-index c.args.operands.now c.loop-operand-test.false in
    rw all at c.loop-operand.invariant.makes
