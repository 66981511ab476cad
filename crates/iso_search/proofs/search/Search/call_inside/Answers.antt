use Rattle.std.proofs.Common.{◌≡◌, ◌∙◌, ◌+◌, Ok, length, refl, ap, subst, inl, inr}
use Rattle.iso_model.specs.Terms.Trees.{Tree}
use Rattle.iso_model.specs.Search.Bodies.{converted}
use Rattle.iso_prep.specs.Conversions.{is_callable}
use Rattle.iso_search_core.specs.Cells.{conversion_cells}
use Rattle.iso_search.specs.Catches.{catcher_of, recovery_of}
use Rattle.iso_search.specs.EngineStates.{Remains}
use Rattle.iso_model.specs.Search.Walker.{Catching, pushed}
use Rattle.iso_program.proofs.ResultLemmas.{behind_error}
use Rattle.iso_search.proofs.Moves.Catch.{catch_left, inside_as, pays_inside}
use Rattle.iso_search.proofs.Moves.Local.{full_called, lists_same, meaning_on}
use Rattle.iso_search.proofs.PaidLemmas.{paid}
use Rattle.iso_search.specs.declared.search.Search.{Search}
use Rattle.iso_search.proofs.search.Search.call_inside.Goals as goal

pub returns-in_err-push_choice-clause-kept : goal.returns-in_err-push_choice-clause-kept
returns-in_err-push_choice-clause-kept g c = λ s h. behind_error c.from_residual.result (inl (c.in_err-push_choice.ensures.refused s h.ahead))

pub returns-then-not-branch-clause-called : goal.returns-then-not-branch-clause-called
returns-then-not-branch-clause-called g c = λ s b h is.
    rw c.full_frames.ensures.is
    (full_called g.S.Store g.L.Lists c.args.self.now c.push_choice.new.self c.full_frames.new.self _ s s c.args.rest h.ahead (c.in_ok-push_choice.ensures.full (ap Ok c.if-not-branch.true)).0 refl c.full_frames.ensures.spent)

pub run_converted-requires-clause-ahead : goal.run_converted-requires-clause-ahead
run_converted-requires-clause-ahead g c =
    let e = c.args.self.now in
    let s = c.requires.enters.0 in
    let h = c.requires.enters.1 in
    let p = g.S.Store.present e.store in
    let left = Catching (catcher_of p c.args.goal) (recovery_of p c.args.goal) in
    (pushed s.list left s, c.in_ok-push_choice.ensures.ahead s left (ap Ok c.if-not-branch.false) h.ahead (catch_left g.S.Store g.L.Lists e c.args.goal s c.args.rest h) h.space)

pub run_converted-requires-clause-callable : goal.run_converted-requires-clause-callable
run_converted-requires-clause-callable g c = ap is_callable (meaning_on _ c.in_ok-push_choice.ensures.present c.arg-inside.ensures.value) ∙ c.requires.can.1

pub returns-in_err-run_converted-clause-kept : goal.returns-in_err-run_converted-clause-kept
returns-in_err-run_converted-clause-kept g c = λ s h.
    (let e = c.args.self.now in
    let p = g.S.Store.present e.store in
    let left = Catching (catcher_of p c.args.goal) (recovery_of p c.args.goal) in
    let ahead = c.in_ok-push_choice.ensures.ahead s left (ap Ok c.if-not-branch.false) h.ahead (catch_left g.S.Store g.L.Lists e c.args.goal s c.args.rest h) h.space in
    behind_error c.from_residual-in_err-run_converted.result
    (inr (subst (λ (x : Tree). Remains g.S.Store g.L.Lists c.run_converted.new.self (record (pushed s.list left s) { built = s.built + conversion_cells x })) (meaning_on _ c.in_ok-push_choice.ensures.present c.arg-inside.ensures.value)
    (c.in_err-run_converted.ensures.kept (pushed s.list left s) ahead))))

pub returns-clause-called : goal.returns-clause-called
returns-clause-called g c = λ s b h is.
    (let e = c.args.self.now in
    let p = g.S.Store.present e.store in
    let many : c.len-height.result ≡ length e.choices.items = cc (c.len-height.ensures, e.choices.ok.0) in
    let left = Catching (catcher_of p c.args.goal) (recovery_of p c.args.goal) in
    let ahead = c.in_ok-push_choice.ensures.ahead s left (ap Ok c.if-not-branch.false) h.ahead (catch_left g.S.Store g.L.Lists e c.args.goal s c.args.rest h) h.space in
    let run = c.in_ok-run_converted.ensures.runs (pushed s.list left s) b ahead (ap converted (meaning_on _ c.in_ok-push_choice.ensures.present c.arg-inside.ensures.value) ∙ is) in
    (run.0, run.1, (inside_as g.S.Store g.L.Lists e c.args.goal s c.args.rest h c.run_converted.new.self c.len-height.result _ run.0 many run.2, c.in_ok-run_converted.ensures.awake)))

pub returns-clause-falls : goal.returns-clause-falls
returns-clause-falls g c = λ w less.
    (let e = c.args.self.now in
    let mid = c.push_choice.new.self in
    let kept = c.in_ok-push_choice.ensures.costs (ap Ok c.if-not-branch.false) in
    let rest = ap (λ (x : _). g.L.Lists.cost x c.args.rest) (lists_same e mid c.in_ok-push_choice.ensures.same) in
    let steps = c.run_converted.ensures.steps ∙ ap (λ (x : Search _ _ _ _ _ _ _ _ _ _). x.steps) c.in_ok-push_choice.ensures.same in
    paid g.L.Lists e c.run_converted.new.self w _ steps c.in_ok-run_converted.ensures.costs (pays_inside _ _ _ _ w kept rest less))
