use Rattle.std.proofs.Common.{◌≢◌, ◌∙◌, ◌<◌, ◌-◌, Ok, arith, ap, refl, sym, subst}
use Rattle.iso_store_core.specs.Presents.{meaning}
use Rattle.iso_model.specs.declared.limit.Limit.TheVariants as limit
use Rattle.iso_model.specs.declared.pauses.Pause.TheVariants as pause
use Rattle.iso_search_core.specs.Bodies.{whole_cost}
use Rattle.iso_search_core.specs.declared.nows.Now.TheVariants as now
use Rattle.iso_program.proofs.ResultLemmas.{behind_error}
use Rattle.iso_search_core.proofs.StandingLemmas.{some_same}
use Rattle.iso_search.specs.declared.search.Move.TheVariants as move
use Rattle.iso_search.specs.EngineStates.{Falls, cost, kept_cost, weight}
use Rattle.iso_search.proofs.Moves.Member.{running_cost}
use Rattle.iso_search.proofs.RunLemmas.{one_less}
use Rattle.iso_search.proofs.WeightLemmas.{falls_called}
use Rattle.iso_plain.specs.Links.{cost_at, first_cost}
use Rattle.iso_plain.specs.Engines.{linked}
use Rattle.iso_control.specs.Members.{IsNoGoal}
use Rattle.iso_control.proofs.FirstMoves.{less_behind, no_goal_asked}
use Rattle.iso_plain.proofs.LinkMoves.{first_read, goal_read, no_goal_first, place_within, there_is}
use Rattle.iso_search.proofs.Moves.Next.{running_stands, next_calls, next_called, next_refused, next_over}
use Rattle.iso_plain.proofs.callers.LinkedCalls.call_first.Goals as goal

pub index-requires : goal.index-requires
index-requires g c =
    let within = place_within g.S.Store c.args.search.now c.args.first c.requires.now c.in-Body.place c.in-Body.is c.requires.stands.0 c.requires.stands.1 in
    let many = c.args.search.now.lists.nodes.ok.0 in
    omega (arith, within, many)

pub called-called-requires-clause-goal : goal.called-called-requires-clause-goal
called-called-requires-clause-goal g c =
    (goal_read g.S.Store c.args.search.now c.args.first c.requires.now c.in-Body.place c.in-Body.is c.requires.stands.0 c.requires.stands.1 _ c.index.ensures _ c.in-Run.is).holds

pub call-requires : goal.call-requires
call-requires g c =
    let e = c.args.search.now in
    let r = c.requires.stands.1 in
    let n = goal_read g.S.Store e c.args.first c.requires.now c.in-Body.place c.in-Body.is c.requires.stands.0 r _ c.index.ensures _ c.in-Run.is in
    let more : e.steps ≢ 0 = λ none. absurd (omega (arith, c.if-search-eq0.false, none)) in
    let user = rw c.in-User.is at (c.called-called.ensures r.own.world r.engine.world) in
    let less = record r.own { steps = e.steps - 1 } in
    let calls = next_calls g.S.Store linked e c.requires.stands.0 c.in-Run.goal c.args.first.next r n more c.in-User.clause c.called-called.new.later user c.in-Run.goal (n.holds, refl) in
    (less, meaning (g.S.Store.present e.store) c.in-Run.goal, user.first, user.others, n.at.behind, calls)

pub returns-in_err-call-in-User-clause-stopped : goal.returns-in_err-call-in-User-clause-stopped
returns-in_err-call-in-User-clause-stopped g c =
    λ s r.
    (let e = c.args.search.now in
    let n = goal_read g.S.Store e c.args.first c.requires.now c.in-Body.place c.in-Body.is s r _ c.index.ensures _ c.in-Run.is in
    let more : e.steps ≢ 0 = λ none. absurd (omega (arith, c.if-search-eq0.false, none)) in
    let user = rw c.in-User.is at (c.called-called.ensures r.own.world r.engine.world) in
    let less = record r.own { steps = e.steps - 1 } in
    let calls = next_calls g.S.Store linked e s c.in-Run.goal c.args.first.next r n more c.in-User.clause c.called-called.new.later user c.in-Run.goal (n.holds, refl) in
    behind_error c.from_residual.result (next_refused g.S.Store linked e s c.in-Run.goal c.args.first.next r n more c.in-User.clause c.called-called.new.later user c.call.new.search
    (c.in_err-call-in-User.ensures.kept less (meaning (g.S.Store.present e.store) c.in-Run.goal) user.first user.others n.at.behind calls)))

pub returns-then-branch-clause-next : goal.returns-then-branch-clause-next
returns-then-branch-clause-next g c =
    λ s r.
    (let e = c.args.search.now in
    let n = goal_read g.S.Store e c.args.first c.requires.now c.in-Body.place c.in-Body.is s r _ c.index.ensures _ c.in-Run.is in
    let more : e.steps ≢ 0 = λ none. absurd (omega (arith, c.if-search-eq0.false, none)) in
    let user = rw c.in-User.is at (c.called-called.ensures r.own.world r.engine.world) in
    let less = record r.own { steps = e.steps - 1 } in
    let calls = next_calls g.S.Store linked e s c.in-Run.goal c.args.first.next r n more c.in-User.clause c.called-called.new.later user c.in-Run.goal (n.holds, refl) in
    next_called g.S.Store linked e s c.in-Run.goal c.args.first.next r n more c.in-User.clause c.called-called.new.later user c.call.new.search move.Goes
    (c.in_ok-call-in-User.ensures.tried less (meaning (g.S.Store.present e.store) c.in-Run.goal) user.first user.others n.at.behind calls (ap Ok c.if-branch.true), c.in_ok-call-in-User.ensures.awake (ap Ok c.if-branch.true)))

pub returns-then-branch-clause-falls : goal.returns-then-branch-clause-falls
returns-then-branch-clause-falls g c =
    let e = c.args.search.now in
    let more : e.steps ≢ 0 = λ none. absurd (omega (arith, c.if-search-eq0.false, none)) in
    let less : cost_at e.lists c.args.first.next < first_cost e.lists c.args.first = less_behind (cost_at e.lists c.args.first.next) c.in-Body.place c.args.first.todo c.in-Body.is in
    let all = running_cost linked e c.args.first c.requires.now in
    let many = one_less e.steps more in
    subst (λ x. Falls move.Goes x (weight linked c.call.new.search)) (ap (λ n. whole_cost n (cost linked e)) (sym many))
    (rw c.in_ok-call-in-User.ensures.steps (falls_called (e.steps - 1) (kept_cost linked e) (cost_at e.lists c.args.first.next) (cost linked e) (cost linked c.call.new.search) (omega (arith, less, all)) (c.in_ok-call-in-User.ensures.costs (ap Ok c.if-branch.true))))

pub returns-then-search-eq0-clause-next : goal.returns-then-search-eq0-clause-next
returns-then-search-eq0-clause-next g c =
    λ s r.
    (let e = c.args.search.now in
    let stands = running_stands g.S.Store linked e s c.args.first c.requires.now r in
    (stands.0, stands.1, record { is = first_read g.S.Store e c.args.first c.requires.now c.in-Body.place c.in-Body.is s r _ c.index.ensures _ c.in-Run.is; later = c.called-called.new.later; called = c.called-called.ensures; other = λ more clause is. absurd (more (omega (arith, c.if-search-eq0.true))) }))

pub returns-in_default-called-clause-next : goal.returns-in_default-called-clause-next
returns-in_default-called-clause-next g c =
    λ s r.
    (let e = c.args.search.now in
    let stands = running_stands g.S.Store linked e s c.args.first c.requires.now r in
    (stands.0, stands.1, record { is = first_read g.S.Store e c.args.first c.requires.now c.in-Body.place c.in-Body.is s r _ c.index.ensures _ c.in-Run.is; later = c.called-called.new.later; called = c.called-called.ensures; other = λ more clause is. c.in_default-called.not-User clause is }))

pub returns-in_default-clause-next : goal.returns-in_default-clause-next
returns-in_default-clause-next g c =
    λ s r.
    (let e = c.args.search.now in
    let stands = running_stands g.S.Store linked e s c.args.first c.requires.now r in (
      stands.0,
      stands.1,
      no_goal_first e c.args.first c.requires.now
          (no_goal_asked e.lists.nodes.items c.args.first.todo (λ k w asks there. c.in_default.not-Body k asks)),
    ))

pub returns-in_default-index-clause-next : goal.returns-in_default-index-clause-next
returns-in_default-index-clause-next g c =
    λ s r.
    (let e = c.args.search.now in
    let stands = running_stands g.S.Store linked e s c.args.first c.requires.now r in
    let place = c.in-Body.place in
    let read = there_is g.S.Store e c.args.first c.requires.now place c.in-Body.is s r _ c.index.ensures _ refl in (
      stands.0,
      stands.1,
      no_goal_first e c.args.first c.requires.now
          (subst (λ t. IsNoGoal e.lists.nodes.items t) (sym c.in-Body.is)
          (λ w there. c.in_default-index.not-Run w (some_same (sym read ∙ there)))),
    ))

pub returns-else-branch-clause-next : goal.returns-else-branch-clause-next
returns-else-branch-clause-next g c =
    λ s r.
    (let e = c.args.search.now in
    let n = goal_read g.S.Store e c.args.first c.requires.now c.in-Body.place c.in-Body.is s r _ c.index.ensures _ c.in-Run.is in
    let more : e.steps ≢ 0 = λ none. absurd (omega (arith, c.if-search-eq0.false, none)) in
    let user = rw c.in-User.is at (c.called-called.ensures r.own.world r.engine.world) in
    let less = record r.own { steps = e.steps - 1 } in
    let calls = next_calls g.S.Store linked e s c.in-Run.goal c.args.first.next r n more c.in-User.clause c.called-called.new.later user c.in-Run.goal (n.holds, refl) in
    let full = c.in_ok-call-in-User.ensures.frames less (meaning (g.S.Store.present e.store) c.in-Run.goal) user.first user.others n.at.behind calls (ap Ok c.if-branch.false) in
    let spent = record e { steps = e.steps - 1; now = now.Spent limit.Frames } in
    rw (c.in_ok-call-in-User.ensures.refused (ap Ok c.if-branch.false)) (
      next_called g.S.Store linked e s c.in-Run.goal c.args.first.next r n more c.in-User.clause c.called-called.new.later user spent (move.Pauses pause.FramesFull) (refl, refl, (calls.ahead.world, calls.ahead.base, (less.query, calls.ahead.choices))),
      (next_over g.S.Store linked e s c.in-Run.goal c.args.first.next r n more c.in-User.clause c.called-called.new.later user full).0,
    ))
