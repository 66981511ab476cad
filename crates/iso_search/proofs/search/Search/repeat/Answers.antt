use Rattle.std.proofs.Common.{Ok, arith, refl, ap}
use Rattle.iso_model.specs.Search.Walker.{Again, pushed}
use Rattle.iso_search.specs.EngineStates.{kept_cost}
use Rattle.iso_search.specs.declared.search.Search.{Search}
use Rattle.iso_program.proofs.ResultLemmas.{behind_error}
use Rattle.iso_search.proofs.AheadLemmas.{engine_place}
use Rattle.iso_search.proofs.Moves.Local.{full_called, lists_same, space_none}
use Rattle.iso_search.proofs.PaidLemmas.{paid, pays_again_as}
use Rattle.iso_search.proofs.search.Search.repeat.Goals as goal

pub returns-in_err-push_choice-clause-kept : goal.returns-in_err-push_choice-clause-kept
returns-in_err-push_choice-clause-kept g c = λ s h. behind_error c.from_residual.result (c.in_err-push_choice.ensures.refused s h)

pub returns-then-not-branch-clause-called : goal.returns-then-not-branch-clause-called
returns-then-not-branch-clause-called g c = λ s h.
    full_called g.S.Store g.L.Lists c.args.self.now c.push_choice.new.self c.full_frames.new.self c.full_frames.result s _ c.args.rest h (c.in_ok-push_choice.ensures.full (ap Ok c.if-not-branch.true)).0 c.full_frames.ensures.is c.full_frames.ensures.spent

pub coming-self-requires : goal.coming-self-requires
coming-self-requires g c =
    let r = c.requires in
    ((r.0).list, (c.in_ok-push_choice.ensures.ahead r.0 Again (ap Ok c.if-not-branch.false) r.1 refl (space_none g.S.Store g.L.Lists c.args.self.now r.0 c.args.rest r.1)).chain)

pub returns-clause-called : goal.returns-clause-called
returns-clause-called g c = λ s h.
    (let ahead = c.in_ok-push_choice.ensures.ahead s Again (ap Ok c.if-not-branch.false) h refl (space_none g.S.Store g.L.Lists c.args.self.now s c.args.rest h) in
    (engine_place g.S.Store g.L.Lists c.push_choice.new.self (pushed s.list Again s) c.args.rest c.coming-self.result ahead (c.coming-self.ensures.behind s.list ahead.chain), c.coming-self.ensures.awake))

pub returns-clause-falls : goal.returns-clause-falls
returns-clause-falls g c = λ w less.
    (let e = c.args.self.now in
    let mid = c.push_choice.new.self in
    let kept = c.in_ok-push_choice.ensures.costs (ap Ok c.if-not-branch.false) in
    let rest = ap (λ (x : _). g.L.Lists.cost x c.args.rest) (lists_same e mid c.in_ok-push_choice.ensures.same) in
    let next = c.coming-self.ensures.cost in
    paid g.L.Lists e (record mid { now = c.coming-self.result }) w _ (ap (λ (x : Search _ _ _ _ _ _ _ _ _ _). x.steps) c.in_ok-push_choice.ensures.same) (omega (arith, next)) (pays_again_as _ _ (kept_cost g.L.Lists mid) (g.L.Lists.cost mid.lists c.args.rest) w kept rest less))
