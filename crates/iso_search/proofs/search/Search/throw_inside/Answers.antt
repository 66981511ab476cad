use Rattle.std.proofs.Common.{◌≡◌, ◌+◌, ◌∙◌, Ok, length, ap, arith, inl, inr}
use Rattle.iso_search.specs.Catches.{catcher_of, recovery_of}
use Rattle.iso_model.specs.Search.Walker.{Catching, pushed}
use Rattle.iso_search.specs.EngineStates.{kept_cost}
use Rattle.iso_search_core.specs.Costs.{now_cost}
use Rattle.iso_search.specs.declared.search.Search.{Search}
use Rattle.iso_program.proofs.ResultLemmas.{behind_error}
use Rattle.iso_search.proofs.AheadLemmas.{remains_ahead}
use Rattle.iso_search.proofs.Moves.Body.{grown_cost}
use Rattle.iso_search.proofs.Moves.Catch.{catch_left, catching_ahead, pays_thrown}
use Rattle.iso_search.proofs.Moves.Local.{full_called}
use Rattle.iso_search.proofs.StoppedLemmas.{keeps_lists}
use Rattle.iso_search.proofs.PaidLemmas.{paid}
use Rattle.iso_search.proofs.search.Search.throw_inside.Goals as goal

pub returns-in_err-push_choice-clause-kept : goal.returns-in_err-push_choice-clause-kept
returns-in_err-push_choice-clause-kept g c = λ s h. behind_error c.from_residual.result (inl (c.in_err-push_choice.ensures.refused s h.ahead))

pub returns-then-not-branch-clause-called : goal.returns-then-not-branch-clause-called
returns-then-not-branch-clause-called g c = λ s h.
    full_called g.S.Store g.L.Lists c.args.self.now c.push_choice.new.self c.full_frames.new.self c.full_frames.result s _ c.args.rest h.ahead (c.in_ok-push_choice.ensures.full (ap Ok c.if-not-branch.true)).0 c.full_frames.ensures.is c.full_frames.ensures.spent

pub place_end-requires : goal.place_end-requires
place_end-requires g c =
    let e = c.args.self.now in
    let s = c.requires.enters.0 in
    let h = c.requires.enters.1 in
    let p = g.S.Store.present e.store in
    let ahead = c.in_ok-push_choice.ensures.ahead s (Catching (catcher_of p c.args.goal) (recovery_of p c.args.goal)) (ap Ok c.if-not-branch.false) h.ahead (catch_left g.S.Store g.L.Lists e c.args.goal s c.args.rest h) h.space in
    (g.S.Store.present c.push_choice.new.self.store, s.list, tt, ahead.chain)

pub returns-in_err-end-clause-kept : goal.returns-in_err-end-clause-kept
returns-in_err-end-clause-kept g c = λ s h.
    (let e = c.args.self.now in
    let p = g.S.Store.present e.store in
    let mid = c.push_choice.new.self in
    let left = Catching (catcher_of p c.args.goal) (recovery_of p c.args.goal) in
    let ahead = c.in_ok-push_choice.ensures.ahead s left (ap Ok c.if-not-branch.false) h.ahead (catch_left g.S.Store g.L.Lists e c.args.goal s c.args.rest h) h.space in
    let t = pushed s.list left s in
    behind_error c.from_residual-in_err-end.result (let all = remains_ahead g.S.Store g.L.Lists mid t c.args.rest ahead in inr (keeps_lists g.S.Store g.L.Lists mid c.place_end.new.self t.world t.stack all.0 c.in_err-end.ensures.keeps, all.1)))

pub returns-clause-called : goal.returns-clause-called
returns-clause-called g c = λ s h.
    (let e = c.args.self.now in
    let p = g.S.Store.present e.store in
    let mid = c.push_choice.new.self in
    let many : c.len-height.result ≡ length e.choices.items = cc (c.len-height.ensures, e.choices.ok.0) in
    let left = Catching (catcher_of p c.args.goal) (recovery_of p c.args.goal) in
    let ahead = c.in_ok-push_choice.ensures.ahead s left (ap Ok c.if-not-branch.false) h.ahead (catch_left g.S.Store g.L.Lists e c.args.goal s c.args.rest h) h.space in
    let chain = c.in_ok-end.ensures.placed (g.S.Store.present mid.store) s.list tt ahead.chain in
    (c.throw.ensures.thrown _ (catching_ahead g.S.Store g.L.Lists e c.args.goal s c.args.rest h mid c.place_end.new.self c.in_ok-end.end c.len-height.result many ahead c.in_ok-end.ensures.keeps chain c.in_ok-end.ensures.pending), rw c.throw.ensures.now tt))

pub returns-clause-falls : goal.returns-clause-falls
returns-clause-falls g c = λ w less.
    (let e = c.args.self.now in
    let s = c.requires.enters.0 in
    let h = c.requires.enters.1 in
    let p = g.S.Store.present e.store in
    let mid = c.push_choice.new.self in
    let new = c.throw.new.self in
    let left = Catching (catcher_of p c.args.goal) (recovery_of p c.args.goal) in
    let ahead = c.in_ok-push_choice.ensures.ahead s left (ap Ok c.if-not-branch.false) h.ahead (catch_left g.S.Store g.L.Lists e c.args.goal s c.args.rest h) h.space in
    let grown = grown_cost g.S.Store g.L.Lists mid (pushed s.list left s) c.args.rest c.place_end.new.self ahead c.in_ok-end.ensures.keeps in
    let kept = ap (λ (x : Search _ _ _ _ _ _ _ _ _ _). kept_cost g.L.Lists x) c.throw.ensures.same in
    let next = ap (now_cost (g.L.Lists.first_cost new.lists)) c.throw.ensures.now in
    let steps = ap (λ (x : Search _ _ _ _ _ _ _ _ _ _). x.steps) c.throw.ensures.same ∙ ap (λ (x : Search _ _ _ _ _ _ _ _ _ _). x.steps) c.in_ok-push_choice.ensures.same in
    paid g.L.Lists e new w (kept_cost g.L.Lists mid + 1) steps (omega (arith, grown, kept, next)) (pays_thrown _ _ _ w (c.in_ok-push_choice.ensures.costs (ap Ok c.if-not-branch.false)) less))
