use Rattle.std.proofs.Common.{◌≡◌, ◌∙◌, ℕ, length, ap, subst, Ok, inl, inr, arith}
use Rattle.iso_model.specs.Search.Walker.{with_others, tried_clause}
use Rattle.iso_search.specs.EngineStates.{Remains, StandsAs}
use Rattle.iso_search_core.proofs.StandingLemmas.{choices_length}
use Rattle.iso_search_core.specs.Bodies.{body_cost, most}
use Rattle.iso_program.proofs.ResultLemmas.{behind_error}
use Rattle.iso_plain.specs.Links.{cost_at}
use Rattle.iso_plain.specs.Engines.{Engine, linked}
use Rattle.iso_plain.proofs.calling.call.Goals as goal

pub enter_clause-requires : goal.enter_clause-requires
enter_clause-requires g c =
    let t = c.requires.5 in
    (with_others c.requires.1 c.requires.3 c.requires.4 c.requires.0, c.requires.1, c.requires.2, c.requires.3, c.requires.4, c.args.later.now, c.in_ok-push_later.ensures.calls c.args.clause c.requires.0 c.requires.1 c.requires.2 c.requires.3 c.requires.4 t (ap Ok c.if-not-branch.false))

pub returns-clause-tried : goal.returns-clause-tried
returns-clause-tried g c =
    λ s call k ks gs t done.
    (let height : c.len-mark.result ≡ length s.stack = cc (c.len-mark.ensures, c.args.search.now.choices.ok.0, choices_length linked t.ahead.choices) in
    subst (λ (n : ℕ). StandsAs g.S.Store linked c.enter_clause.new.search (tried_clause call k n gs (with_others call ks gs s))) height
    (c.in_ok-enter_clause.ensures.tried (with_others call ks gs s) call k ks gs c.args.later.now (c.in_ok-push_later.ensures.calls c.args.clause s call k ks gs t (ap Ok c.if-not-branch.false))))

pub returns-then-not-branch-clause-frames : goal.returns-then-not-branch-clause-frames
returns-then-not-branch-clause-frames g c =
    λ s call k ks gs t done. c.in_ok-push_later.ensures.frames c.args.clause s call k ks gs t (ap Ok c.if-not-branch.true)

pub returns-in_err-push_later-clause-kept : goal.returns-in_err-push_later-clause-kept
returns-in_err-push_later-clause-kept g c =
    λ s call k ks gs t. behind_error c.from_residual.result (inl (c.in_err-push_later.ensures.kept c.args.clause s call k ks gs t))

pub returns-in_err-enter_clause-clause-kept : goal.returns-in_err-enter_clause-clause-kept
returns-in_err-enter_clause-clause-kept g c =
    λ s call k ks gs t.
    (let height : c.len-mark.result ≡ length s.stack = cc (c.len-mark.ensures, c.args.search.now.choices.ok.0, choices_length linked t.ahead.choices) in
    behind_error c.from_residual-in_err-enter_clause.result
    (inr (subst (λ (n : ℕ). Remains g.S.Store linked c.enter_clause.new.search (tried_clause call k n gs (with_others call ks gs s))) height
    (c.in_err-enter_clause.ensures.kept (with_others call ks gs s) call k ks gs c.args.later.now (c.in_ok-push_later.ensures.calls c.args.clause s call k ks gs t (ap Ok c.if-not-branch.false))))))

pub returns-clause-costs : goal.returns-clause-costs
returns-clause-costs g c =
    λ done.
    (let mid = c.push_later.new.search in
    let gained = c.in_ok-push_later.ensures.costs (ap Ok c.if-not-branch.false) in
    let entered = c.in_ok-enter_clause.ensures.costs in
    let rest = ap (λ (x : Engine g.row.S.Denot g.row.S-Word.Denot g.row.S-Mark.Denot). body_cost most (cost_at x.lists c.args.rest)) c.in_ok-push_later.ensures.same in
    omega (arith, gained, entered, rest))

pub returns-clause-steps : goal.returns-clause-steps
returns-clause-steps g c =
    let steps = c.in_ok-enter_clause.ensures.steps in
    let same = ap (λ (x : Engine g.row.S.Denot g.row.S-Word.Denot g.row.S-Mark.Denot). x.steps) c.in_ok-push_later.ensures.same in
    steps ∙ same
