use Rattle.std.proofs.Common.{◌+◌, ◌∷◌, List, ap, refl, subst, arith}
use Rattle.iso_model.specs.Terms.Sizes.{size}
use Rattle.iso_model.specs.Search.Bodies.{body_term}
use Rattle.iso_model.specs.Search.Walker.{Goal, Member}
use Rattle.iso_search_core.specs.Bodies.{body_cost, most}
use Rattle.iso_search_core.specs.Keeping.{end_cost}
use Rattle.iso_store_core.specs.Presents.{meaning}
use Rattle.iso_program.proofs.ResultLemmas.{behind_error}
use Rattle.iso_search_core.specs.Cells.{conversion_cells}
use Rattle.iso_search_core.proofs.CellLemmas.{converted_cells}
use Rattle.iso_search_core.proofs.CostLemmas.{choices_cost_on}
use Rattle.iso_search_core.proofs.FittingLemmas.{fits_taken}
use Rattle.iso_search.specs.EngineStates.{IsEngine}
use Rattle.iso_search.proofs.AheadLemmas.{keeps_ahead}
use Rattle.iso_search.proofs.StoppedLemmas.{keeps_more}
use Rattle.iso_search.proofs.WorldLemmas.{same_texts}
use Rattle.iso_search.proofs.Moves.Body.{converted_ahead, end_holds, end_same, own_values}
use Rattle.iso_search.proofs.search.Search.run_converted.Goals as goal

pub place_goal-requires-clause-controls : goal.place_goal-requires-clause-controls
place_goal-requires-clause-controls g c = c.requires.ahead.1.world.vocabulary_is.controls

pub returns-in_err-body-clause-kept : goal.returns-in_err-body-clause-kept
returns-in_err-body-clause-kept g c = λ s h.
    (let e = c.args.self.now in
    let counted = record s { built = s.built + conversion_cells (meaning (g.S.Store.present e.store) c.args.goal) } in
    behind_error c.from_residual.result (
      keeps_more g.S.Store g.L.Lists e c.place_goal.new.store c.place_goal.new.self s.world s.stack
          (keeps_ahead g.S.Store g.L.Lists e s c.args.rest h) c.in_err-body.ensures.rest.marks (same_texts c.in_err-body.ensures.rest.names) c.in_err-body.ensures.keeps,
      fits_taken g.S.Store s counted c.in_err-body.ensures.cells (omega arith) refl (omega arith) h.fits,
    ))

pub run_before-requires : goal.run_before-requires
run_before-requires g c =
    let e = c.args.self.now in
    let s = c.requires.ahead.0 in
    let placed = c.in_ok-body.ensures.placed in (
      record s { built = s.built + conversion_cells (meaning (g.S.Store.present e.store) c.args.goal) },
      (placed.2).own,
      converted_ahead g.S.Store g.L.Lists e c.args.rest c.place_goal.new.store c.place_goal.new.self (meaning (g.S.Store.present e.store) c.args.goal) c.in_ok-body.body c.in_ok-body.ensures.rest c.in_ok-body.ensures.keeps placed
          g.met.L.Lists.all g.met.L.Lists.top g.met.L.Lists.more g.met.L.Lists.words c.in_ok-body.ensures.cells s (s.built + conversion_cells (meaning (g.S.Store.present e.store) c.args.goal)) (omega arith) c.requires.ahead.1,
      (placed.2).stands,
      end_holds (placed.2).words c.args.end c.requires.end,
    )

pub returns-in_err-run_before-clause-kept : goal.returns-in_err-run_before-clause-kept
returns-in_err-run_before-clause-kept g c = λ s h.
    (let e = c.args.self.now in
    behind_error c.from_residual-in_err-run_before.result (c.in_err-run_before.ensures.kept (record s { built = s.built + conversion_cells (meaning (g.S.Store.present e.store) c.args.goal) })
    (converted_ahead g.S.Store g.L.Lists e c.args.rest c.place_goal.new.store c.place_goal.new.self (meaning (g.S.Store.present e.store) c.args.goal) c.in_ok-body.body c.in_ok-body.ensures.rest c.in_ok-body.ensures.keeps c.in_ok-body.ensures.placed
    g.met.L.Lists.all g.met.L.Lists.top g.met.L.Lists.more g.met.L.Lists.words c.in_ok-body.ensures.cells s (s.built + conversion_cells (meaning (g.S.Store.present e.store) c.args.goal)) (omega arith) h)))

pub returns-clause-runs : goal.returns-clause-runs
returns-clause-runs g c = λ s b h is.
    (let e = c.args.self.now in
    let t = meaning (g.S.Store.present e.store) c.args.goal in
    let placed = c.in_ok-body.ensures.placed in
    let built = s.built + size (body_term b) in
    let ahead = converted_ahead g.S.Store g.L.Lists e c.args.rest c.place_goal.new.store c.place_goal.new.self t c.in_ok-body.body c.in_ok-body.ensures.rest c.in_ok-body.ensures.keeps placed
    g.met.L.Lists.all g.met.L.Lists.top g.met.L.Lists.more g.met.L.Lists.words c.in_ok-body.ensures.cells s built (let few = converted_cells t b is in omega (arith, few)) h in (
      (placed.2).own,
      own_values g.S.Store g.L.Lists e c.args.rest c.place_goal.new.store c.place_goal.new.self t c.in_ok-body.body c.in_ok-body.ensures.rest c.in_ok-body.ensures.keeps placed s b h is,
      subst (λ (ms : List Member). IsEngine g.S.Store g.L.Lists c.run_before.new.self (record s { list = Goal (placed.2).own c.args.mark ∷ ms; built = built })) (end_same (placed.2).words c.args.end s.list c.requires.end)
          (c.in_ok-run_before.ensures.runs (record s { built = built }) (placed.2).own ahead (placed.2).stands),
    ))

pub returns-clause-costs : goal.returns-clause-costs
returns-clause-costs g c =
    let e = c.args.self.now in
    let h = c.requires.ahead.1 in
    let keeps = c.in_ok-body.ensures.keeps in
    let all = choices_cost_on g.L.Lists keeps (λ d among. tt) h.choices in
    let body = ap (λ n. body_cost most (end_cost c.args.end + n)) (keeps.costs (g.S.Store.present e.store) (g.L.Lists.whole e.lists) c.args.rest c.requires.ahead.0.list tt (g.met.L.Lists.all e.lists) h.chain) in
    omega (arith, all, body, c.in_ok-run_before.ensures.costs)
