use Rattle.std.proofs.Common.{◌∙◌, ◌+◌, arith, ap, Ok, Err, inr}
use Rattle.std.proofs.lemmas.Result.{on_err_weaker, IfOk-weaker}
use Rattle.iso_search.specs.EngineStates.{cost, kept_cost}
use Rattle.iso_model.specs.Search.Storages.{storage_settled}
use Rattle.iso_storage.specs.Cells.{settled_cells}
use Rattle.iso_store_core.specs.Presents.{meaning}
use Rattle.iso_search_core.proofs.BodyCosts.{whole_paid}
use Rattle.iso_search.proofs.Moves.Fault.{goal_throws}
use Rattle.iso_search.proofs.LimitLemmas.{result_full}
use Rattle.iso_search.proofs.Moves.Store.{CameTo, done_chain, comes_done, comes_none, raised_ball, comes_raised, comes_to_show, given_up, remains_raised}
use Rattle.iso_search.proofs.Moves.Word.{slice_are}
use Rattle.iso_search.proofs.search.Search.database_goal.Given.{Over}
use Rattle.iso_search.proofs.search.Search.database_goal.Goals.{After-store_goal}
use Rattle.iso_search.proofs.search.Search.database_goal.Goals as goal

-- what the goal came to
came_to : (g : Over) (c : After-store_goal g) → CameTo g.S.Store g.L.Lists c.args.self.now c.args.row c.args.goal c.store_goal.new.store c.store_goal.new.db c.store_goal.new.callables c.store_goal.result
came_to g c = record {
  cells = c.store_goal.ensures.cells (meaning (g.S.Store.present c.args.self.now.store) c.args.goal) (slice_are c.as_slice-arguments.ensures.value c.requires.arguments);
  marks = c.store_goal.ensures.rest.marks;
  texts = c.store_goal.ensures.rest.names;
  on = c.store_goal.ensures.preserves;
  words = g.met.L.Lists.words;
  told = c.store_goal.ensures.stored (meaning (g.S.Store.present c.args.self.now.store) c.args.goal) (slice_are c.as_slice-arguments.ensures.value c.requires.arguments);
  kept = c.store_goal.ensures.kept;
  unbound = c.store_goal.ensures.unbound;
}

pub store_goal-requires-clause-arguments : goal.store_goal-requires-clause-arguments
store_goal-requires-clause-arguments g c = (slice_are c.as_slice-arguments.ensures.value c.requires.arguments).hold

pub store_goal-requires-clause-count : goal.store_goal-requires-clause-count
store_goal-requires-clause-count g c = (slice_are c.as_slice-arguments.ensures.value c.requires.arguments).count ∙ c.requires.stores.1.arity_is

pub store_goal-requires-clause-keyed : goal.store_goal-requires-clause-keyed
store_goal-requires-clause-keyed g c = c.requires.stores.1.ahead.world.keyed

-- ---- it succeeds, or fails

pub coming-self-requires : goal.coming-self-requires
coming-self-requires g c =
    let s = c.requires.stores.0 in
    let d = came_to g (goal.at.coming-self-requires g c).After-store_goal in
    (s.list, done_chain g.S.Store g.L.Lists d s c.requires.stores.1 (c.in-Ok-Done.is ∙ ap Ok c.in-Ok-Done.field-0-is))

pub returns-in-Ok-Done-clause-called : goal.returns-in-Ok-Done-clause-called
returns-in-Ok-Done-clause-called g c = λ s h.
    (let d = came_to g (goal.at.returns-in-Ok-Done-clause-called g c).After-store_goal in
    let came = c.in-Ok-Done.is ∙ ap Ok c.in-Ok-Done.field-0-is in
    comes_done g.S.Store g.L.Lists d s h c.coming-self.result came (c.coming-self.ensures.behind s.list (done_chain g.S.Store g.L.Lists d s h came)) c.coming-self.ensures.awake)

pub returns-in-Ok-Done-clause-falls : goal.returns-in-Ok-Done-clause-falls
returns-in-Ok-Done-clause-falls g c = λ w less.
    (whole_paid c.args.self.now.steps w (cost g.L.Lists (record c.args.self.now { now = c.coming-self.result })) (omega (arith, less, c.coming-self.ensures.cost)))

pub returns-in-Ok-Fails-clause-called : goal.returns-in-Ok-Fails-clause-called
returns-in-Ok-Fails-clause-called g c = λ s h.
    (let d = came_to g (goal.at.returns-in-Ok-Fails-clause-called g c).After-store_goal in
    comes_none g.S.Store g.L.Lists d s h (c.in-Ok-Fails.is ∙ ap Ok c.in-Ok-Fails.field-0-is))

pub returns-in-Ok-Fails-clause-falls : goal.returns-in-Ok-Fails-clause-falls
returns-in-Ok-Fails-clause-falls g c = λ w less.
    whole_paid c.args.self.now.steps w (kept_cost g.L.Lists c.args.self.now + 0) (omega (arith, less))

-- ---- clauses are shown

pub show-requires : goal.show-requires
show-requires g c =
    let s = c.requires.stores.0 in
    let d = came_to g (goal.at.show-requires g c).After-store_goal in
    let shows = comes_to_show g.S.Store g.L.Lists d s c.requires.stores.1 c.in-Ok-Shows.shown (c.in-Ok-Shows.is ∙ ap Ok c.in-Ok-Shows.field-0-is) in
    (s, shows.key, shows.first, shows.others, shows.shows)

pub returns-in-Ok-Shows-clause-called : goal.returns-in-Ok-Shows-clause-called
returns-in-Ok-Shows-clause-called g c = λ s h.
    (let d = came_to g (goal.at.returns-in-Ok-Shows-clause-called g c).After-store_goal in
    let shows = comes_to_show g.S.Store g.L.Lists d s h c.in-Ok-Shows.shown (c.in-Ok-Shows.is ∙ ap Ok c.in-Ok-Shows.field-0-is) in
    IfOk-weaker c.show.result _ _ (λ m was. record { own = _; thin = shows.thin; tried = was }) (c.show.ensures.called s shows.key shows.first shows.others shows.shows))

pub returns-in-Ok-Shows-clause-kept : goal.returns-in-Ok-Shows-clause-kept
returns-in-Ok-Shows-clause-kept g c = λ s h.
    (let d = came_to g (goal.at.returns-in-Ok-Shows-clause-kept g c).After-store_goal in
    let shows = comes_to_show g.S.Store g.L.Lists d s h c.in-Ok-Shows.shown (c.in-Ok-Shows.is ∙ ap Ok c.in-Ok-Shows.field-0-is) in
    on_err_weaker c.show.result (λ remains. record { keeps = inr remains.0; own = _; thin = shows.thin; fits = remains.1 }) (c.show.ensures.kept s shows.key shows.first shows.others shows.shows))

pub returns-in-Ok-Shows-clause-frames : goal.returns-in-Ok-Shows-clause-frames
returns-in-Ok-Shows-clause-frames g c = λ s h.
    (let d = came_to g (goal.at.returns-in-Ok-Shows-clause-frames g c).After-store_goal in
    let shows = comes_to_show g.S.Store g.L.Lists d s h c.in-Ok-Shows.shown (c.in-Ok-Shows.is ∙ ap Ok c.in-Ok-Shows.field-0-is) in
    result_full c.show.result (λ full. (full.0, shows.longer full.1)) (c.show.ensures.frames s shows.key shows.first shows.others shows.shows))

-- ---- its error is raised, or it is refused

pub behind_fault-requires : goal.behind_fault-requires
behind_fault-requires g c = λ ball raised.
    (let d = came_to g (goal.at.behind_fault-requires g c).After-store_goal in
    (raised_ball g.S.Store g.L.Lists d c.requires.stores.0 c.requires.stores.1 ball (c.in-Err.is ∙ ap Err raised)).1)

pub returns-in-Err-clause-called : goal.returns-in-Err-clause-called
returns-in-Err-clause-called g c = λ s h.
    (let d = came_to g (goal.at.returns-in-Err-clause-called g c).After-store_goal in
    (goal_throws g.S.Store g.L.Lists c.behind_fault.ensures.throws).goes _
    (λ ball raised engine awake. comes_raised g.S.Store g.L.Lists d s h c.behind_fault.new.self ball (c.in-Err.is ∙ ap Err raised) engine awake))

pub returns-in-Err-clause-kept : goal.returns-in-Err-clause-kept
returns-in-Err-clause-kept g c = λ s h.
    (let d = came_to g (goal.at.returns-in-Err-clause-kept g c).After-store_goal in
    let counted = record s { built = s.built + settled_cells (storage_settled c.args.row (meaning (g.S.Store.present c.args.self.now.store) c.args.goal) s.next s.world) } in
    on_err_weaker c.behind_fault.result (given_up g.S.Store g.L.Lists d s h c.behind_fault.new.self) ((goal_throws g.S.Store g.L.Lists c.behind_fault.ensures.throws).kept counted (remains_raised g.S.Store g.L.Lists d s h c.in-Err.fault c.in-Err.is)))

pub returns-in-Err-clause-falls : goal.returns-in-Err-clause-falls
returns-in-Err-clause-falls g c = (goal_throws g.S.Store g.L.Lists c.behind_fault.ensures.throws).falls

pub returns-in-Err-clause-frames : goal.returns-in-Err-clause-frames
returns-in-Err-clause-frames g c = λ s h. (goal_throws g.S.Store g.L.Lists c.behind_fault.ensures.throws).frames _

pub returns-in-Err-clause-met : goal.returns-in-Err-clause-met
returns-in-Err-clause-met g c = (goal_throws g.S.Store g.L.Lists c.behind_fault.ensures.throws).met (λ full. c.store_goal.ensures.full (c.in-Err.is ∙ ap Err full))
