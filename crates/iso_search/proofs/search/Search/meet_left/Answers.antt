use Rattle.std.proofs.Common.{◌≡◌, ◌≤◌, ◌<◌, length, subst, arith}
use Rattle.std.proofs.lemmas.Result.{on_ok_weaker, on_err_weaker}
use Rattle.iso_model.specs.Search.Walker.{State}
use Rattle.iso_search_core.specs.Bodies.{most}
use Rattle.iso_search_core.proofs.BodyCosts.{below_most}
use Rattle.iso_search.specs.EngineStates.{IsEngine, cost, kept_cost}
use Rattle.iso_search.specs.Groups.{StoppedAt}
use Rattle.iso_search.proofs.Moves.Grouped.{left_pays, left_target, meets_left, ok_both}
use Rattle.iso_search.proofs.search.Search.meet_left.Goals as goal

pub meet_first-requires : goal.meet_first-requires
meet_first-requires g c =
    let m = c.requires.meets in
    record { meets = (m.0, meets_left g.S.Store g.L.Lists c.args.self.now c.args.left m.0 m.1 c.args.rest m.2 c.in_ok-by.by c.in_ok-by.groups.items c.in_ok-by.ensures) }

pub returns-clause-met : goal.returns-clause-met
returns-clause-met g c = λ s x b gs h are.
    (let e = c.args.self.now in
    let is = left_target g.S.Store g.L.Lists e c.args.left s x c.args.rest h c.in_ok-by.by c.in_ok-by.groups.items c.in_ok-by.ensures b gs are in
    on_ok_weaker c.meet_first.result (λ k. subst (λ (y : State). IsEngine g.S.Store g.L.Lists c.meet_first.new.self y) is k)
    (c.meet_first.ensures.met s (meets_left g.S.Store g.L.Lists e c.args.left s x c.args.rest h c.in_ok-by.by c.in_ok-by.groups.items c.in_ok-by.ensures)))

pub returns-clause-kept : goal.returns-clause-kept
returns-clause-kept g c = λ s x b gs h are.
    (let e = c.args.self.now in
    let is = left_target g.S.Store g.L.Lists e c.args.left s x c.args.rest h c.in_ok-by.by c.in_ok-by.groups.items c.in_ok-by.ensures b gs are in
    on_err_weaker c.meet_first.result (λ k. subst (λ (y : State). StoppedAt g.S.Store g.L.Lists c.meet_first.new.self s y) is k)
    (c.meet_first.ensures.kept s (meets_left g.S.Store g.L.Lists e c.args.left s x c.args.rest h c.in_ok-by.by c.in_ok-by.groups.items c.in_ok-by.ensures)))

pub returns-clause-costs : goal.returns-clause-costs
returns-clause-costs g c =
    let e = c.args.self.now in
    let m = c.requires.meets in
    let whole = c.in_ok-by.groups.ok.0 in
    let few : length c.in_ok-by.groups.items ≤ most = below_most (length c.in_ok-by.groups.items) (omega (arith, whole)) in
    on_ok_weaker c.meet_first.result
    (λ k. left_pays g.S.Store g.L.Lists e c.args.left m.0 m.1 c.args.rest m.2 c.in_ok-by.by c.in_ok-by.groups.items c.in_ok-by.ensures
    (cost g.L.Lists c.meet_first.new.self) (kept_cost g.L.Lists e) (g.L.Lists.cost e.lists c.args.rest) few k.0 k.1)
    (ok_both _ _ c.meet_first.result c.meet_first.ensures.none c.meet_first.ensures.some)
