use Rattle.std.proofs.Common.{◌≡◌, ◌<◌, ℕ, length, rules, sym, subst, arith, inl, inr}
use Rattle.iso_model.specs.Search.Walker.{idle}
use Rattle.iso_model.specs.Search.Engines.{IsAwake}
use Rattle.iso_search_core.specs.declared.nows.Now.{Now}
use Rattle.iso_search.specs.EngineStates.{phase_of}
use Rattle.iso_search.proofs.Moves.Engine.{awake_stands, ready_stands, ready_now, stands_base}
use Rattle.iso_search.proofs.EndLemmas.{idle_moves}
use Rattle.iso_search.proofs.FailLemmas.{ends_run, idle_choices}
use Rattle.iso_search.proofs.LimitLemmas.{limits_stay, met_limit, where_full}
use Rattle.iso_search.proofs.engine.SearchEngine.resume.Goals as goal
use Rattle.iso_search.proofs.engine.SearchEngine.resume.Goals.{in_default-via-in-Failing+else-is_empty, in_default-via-in_default}

pub returns-in-Idle-clause-pauses : goal.returns-in-Idle-clause-pauses
returns-in-Idle-clause-pauses g c = λ s r awake.
    let e = c.args.self.now in
    idle_moves g.S.Store g.L.Lists e s (awake_stands g.S.Store g.L.Lists e.now e s awake r) c.in-Idle.is

pub clear-requires : goal.clear-requires
clear-requires g c =
    let e = c.args.self.now in
    let awake : IsAwake (phase_of e.now) = subst (λ (n : Now _ _). IsAwake (phase_of n)) (sym c.in-Failing.is) tt in
    (awake_stands g.S.Store g.L.Lists e.now e c.requires.0 awake c.requires.1).engine.base

pub returns-in-Failing-clause-pauses : goal.returns-in-Failing-clause-pauses
returns-in-Failing-clause-pauses g c = λ s r awake.
    let e = c.args.self.now in
    let none : length e.choices.items ≡ 0 = search rules in
    ends_run g.S.Store g.L.Lists e c.clear.new.self s (awake_stands g.S.Store g.L.Lists e.now e s awake r) c.in-Failing.is none c.clear.ensures.idle c.clear.ensures.now

-- an engine that stands for an idle state neither runs nor has a choice
pub returns-in_default-clause-idle : goal.returns-in_default-clause-idle
returns-in_default-clause-idle g c = λ w r ready.
    let e = c.args.self.now in
    let none = idle_choices g.S.Store g.L.Lists e w (ready_stands g.S.Store g.L.Lists e.now e (idle w) ready r) in
    elim c.in_default.branch [
      | in_default-via-in-Failing+else-is_empty x ↦ absurd (let some : 0 < length e.choices.items = search rules in omega (arith, some, none))
      | in_default-via-in_default x ↦ absurd (elim (ready_now g.S.Store g.L.Lists e.now ready) [ inl is ↦ x.in_default.not-Idle is | inr is ↦ x.in_default.not-Failing is ])
    ]

-- ---- limits

pub returns-in_default-clause-limit : goal.returns-in_default-clause-limit
returns-in_default-clause-limit g c = λ s r.
    met_limit g.S.Store g.met.S.Store.full_used g.L.Calls.over c.run_on.new.self s c.run_on.result c.run_on.ensures.met (c.run_on.ensures.heap s r)
    (where_full c.run_on.result (subst (λ (n : ℕ). g.L.Calls.over n s) (sym c.run_on.ensures.stays.limit)) (c.run_on.ensures.frames s r))

pub returns-in_default-clause-limits : goal.returns-in_default-clause-limits
returns-in_default-clause-limits g c =
    let e = c.args.self.now in
    limits_stay g.S.Store g.met.S.Store.limit_stands g.L.Calls.over e c.run_on.new.self (stands_base g.S.Store g.L.Lists e.now e c.requires.0 c.requires.1) c.run_on.ensures.stays

pub returns-in-Failing-clause-limits : goal.returns-in-Failing-clause-limits
returns-in-Failing-clause-limits g c =
    let e = c.args.self.now in
    limits_stay g.S.Store g.met.S.Store.limit_stands g.L.Calls.over e c.clear.new.self (stands_base g.S.Store g.L.Lists e.now e c.requires.0 c.requires.1) c.clear.ensures.stays
