use Rattle.std.proofs.Common.{◌≡◌, ◌∙◌, ℕ, Option, length, arith, ap, subst}
use Rattle.iso_model.specs.Search.Walker.{with_others}
use Rattle.iso_program.proofs.ResultLemmas.{behind_error}
use Rattle.iso_search_core.specs.Bodies.{body_cost, most}
use Rattle.iso_search_core.proofs.StandingLemmas.{choices_length}
use Rattle.iso_search.specs.EngineStates.{Retries, went_back}
use Rattle.iso_search.specs.Retrying.{attempt_of}
use Rattle.iso_search.proofs.BackLemmas.{newest_tries}
use Rattle.iso_search.proofs.WeightLemmas.{falls_back}
use Rattle.iso_plain.specs.Links.{cost_at}
use Rattle.iso_plain.specs.Engines.{Engine, linked}
use Rattle.iso_search.proofs.Moves.Retry.{tries_on, stops_on}
use Rattle.iso_plain.proofs.callers.LinkedCalls.retry.Goals as goal

pub leave_choice-below-requires-clause-back : goal.leave_choice-below-requires-clause-back
leave_choice-below-requires-clause-back g c =
    let r = c.requires.stands.1 in
    let b = newest_tries g.S.Store linked c.args.search.now c.go_back-newest.new.self c.go_back-newest.result.mark c.go_back-newest.result.rest c.args.retry r.own c.requires.tries c.go_back-newest.ensures.choices (c.go_back-newest.ensures.back r.own r.engine) in
    (attempt_of c.args.retry c.requires.tries.later, b.choice, r.own, b.alternative, b.below, b.mark_is, b.left_is, b.back)

pub enter_clause-requires : goal.enter_clause-requires
enter_clause-requires g c =
    let r = c.requires.stands.1 in
    let b = newest_tries g.S.Store linked c.args.search.now c.go_back-newest.new.self c.go_back-newest.result.mark c.go_back-newest.result.rest c.args.retry r.own c.requires.tries c.go_back-newest.ensures.choices (c.go_back-newest.ensures.back r.own r.engine) in
    let t0 = c.leave_choice-below.ensures.calls (attempt_of c.args.retry c.requires.tries.later) b.choice r.own b.alternative b.below b.mark_is b.left_is b.back in
    let t = subst (λ (place : Option ℕ). Retries g.S.Store linked c.leave_choice-below.new.self (attempt_of c.args.retry c.requires.tries.later) place r.own b.alternative b.below) b.rest_is t0 in
    (with_others t.call t.others b.alternative.list (went_back b.alternative b.below r.own), t.call, t.clause, t.others, b.alternative.list, c.requires.tries.later, t.calls)

pub returns-clause-next : goal.returns-clause-next
returns-clause-next g c =
    λ s r.
    (let b = newest_tries g.S.Store linked c.args.search.now c.go_back-newest.new.self c.go_back-newest.result.mark c.go_back-newest.result.rest c.args.retry r.own c.requires.tries c.go_back-newest.ensures.choices (c.go_back-newest.ensures.back r.own r.engine) in
    let t0 = c.leave_choice-below.ensures.calls (attempt_of c.args.retry c.requires.tries.later) b.choice r.own b.alternative b.below b.mark_is b.left_is b.back in
    let t = subst (λ (place : Option ℕ). Retries g.S.Store linked c.leave_choice-below.new.self (attempt_of c.args.retry c.requires.tries.later) place r.own b.alternative b.below) b.rest_is t0 in
    let height : c.leave_choice-below.result ≡ length b.below = (let n = c.leave_choice-below.ensures.below in let kept_all = ap (λ v. length v.items) c.go_back-newest.ensures.choices in let number = choices_length linked r.engine.choices in let all = ap length b.stack in omega (arith, n, kept_all, number, all)) in
    tries_on g.S.Store linked c.args.search.now c.enter_clause.new.search (attempt_of c.args.retry c.requires.tries.later) c.go_back-newest.result.rest s r b.alternative b.below c.leave_choice-below.new.self c.leave_choice-below.result c.requires.failing b.stack t height
    (c.in_ok-enter_clause.ensures.tried (with_others t.call t.others b.alternative.list (went_back b.alternative b.below r.own)) t.call t.clause t.others b.alternative.list c.requires.tries.later t.calls) c.in_ok-enter_clause.ensures.awake)

pub returns-in_err-enter_clause-clause-stopped : goal.returns-in_err-enter_clause-clause-stopped
returns-in_err-enter_clause-clause-stopped g c =
    λ s r.
    (let b = newest_tries g.S.Store linked c.args.search.now c.go_back-newest.new.self c.go_back-newest.result.mark c.go_back-newest.result.rest c.args.retry r.own c.requires.tries c.go_back-newest.ensures.choices (c.go_back-newest.ensures.back r.own r.engine) in
    let t0 = c.leave_choice-below.ensures.calls (attempt_of c.args.retry c.requires.tries.later) b.choice r.own b.alternative b.below b.mark_is b.left_is b.back in
    let t = subst (λ (place : Option ℕ). Retries g.S.Store linked c.leave_choice-below.new.self (attempt_of c.args.retry c.requires.tries.later) place r.own b.alternative b.below) b.rest_is t0 in
    let height : c.leave_choice-below.result ≡ length b.below = (let n = c.leave_choice-below.ensures.below in let kept_all = ap (λ v. length v.items) c.go_back-newest.ensures.choices in let number = choices_length linked r.engine.choices in let all = ap length b.stack in omega (arith, n, kept_all, number, all)) in
    behind_error c.from_residual.result (stops_on g.S.Store linked c.args.search.now c.enter_clause.new.search (attempt_of c.args.retry c.requires.tries.later) c.go_back-newest.result.rest s r b.alternative b.below c.leave_choice-below.new.self c.leave_choice-below.result c.requires.failing b.stack t height
    (c.in_err-enter_clause.ensures.kept (with_others t.call t.others b.alternative.list (went_back b.alternative b.below r.own)) t.call t.clause t.others b.alternative.list c.requires.tries.later t.calls)))

pub returns-clause-falls : goal.returns-clause-falls
returns-clause-falls g c =
    let r = c.requires.stands.1 in
    let back = c.go_back-newest.ensures in
    let mid = c.go_back-newest.new.self in
    let leave = c.leave_choice-below.ensures in
    let on = c.in_ok-enter_clause.ensures in
    let b = newest_tries g.S.Store linked c.args.search.now c.go_back-newest.new.self c.go_back-newest.result.mark c.go_back-newest.result.rest c.args.retry r.own c.requires.tries c.go_back-newest.ensures.choices (c.go_back-newest.ensures.back r.own r.engine) in
    let fewer = leave.costs (attempt_of c.args.retry c.requires.tries.later) b.choice b.back.newest b.left_is in
    let place = ap (λ (p : Option ℕ). body_cost most (cost_at mid.lists p)) b.rest_is in
    let lists = ap (λ (x : Engine g.row.S.Denot g.row.S-Word.Denot g.row.S-Mark.Denot). body_cost most (cost_at x.lists c.go_back-newest.result.rest)) leave.same in
    let entered = on.costs in
    let steps = on.steps ∙ ap (λ (x : Engine g.row.S.Denot g.row.S-Word.Denot g.row.S-Mark.Denot). x.steps) leave.same in
    falls_back linked c.args.search.now mid c.enter_clause.new.search back.choices back.costs back.steps steps (omega (arith, fewer, place, lists, entered))
