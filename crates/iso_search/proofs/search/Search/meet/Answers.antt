use Rattle.std.proofs.Common.{◌+◌, ap, arith, inl, inr, Ok}
use Rattle.std.proofs.lemmas.Result.{on_ok_weaker}
use Rattle.iso_model.specs.Terms.Substitutions.{compose}
use Rattle.iso_search.specs.EngineStates.{kept_cost}
use Rattle.iso_search_core.specs.Bodies.{most}
use Rattle.iso_search.specs.declared.search.Search.{Search}
use Rattle.iso_model.specs.Terms.Sizes.{size}
use Rattle.iso_model.specs.Terms.Variables.{variable_count}
use Rattle.iso_program.proofs.ResultLemmas.{behind_error}
use Rattle.iso_search_core.proofs.BodyCosts.{cost_above}
use Rattle.iso_search.specs.Catches.{Unified}
use Rattle.iso_search.proofs.MeetLemmas.{keeps_met, unified_recovers, recovery_moved, thrown_on}
use Rattle.iso_search.proofs.search.Search.meet.Goals as goal

pub returns-in_err-meets-clause-kept : goal.returns-in_err-meets-clause-kept
returns-in_err-meets-clause-kept g c = λ s ball h.
    behind_error c.from_residual.result (keeps_met g.S.Store g.L.Lists c.args.self.now c.args.goal ball s c.args.rest h c.meets.new.self c.meets.ensures.same c.meets.ensures.rest, c.in_err-meets.ensures.refused s ball c.args.rest h)

pub call_recovery-requires : goal.call_recovery-requires
call_recovery-requires g c =
    let e = c.args.self.now in
    let s = c.requires.0 in
    let ball = c.requires.1 in
    let mid = c.meets.new.self in
    let u : Unified (g.S.Store.present e.store) (g.S.Store.present mid.store) c.args.goal ball = rw c.if-branch.true at (c.in_ok-meets.ensures.met s ball c.args.rest c.requires.2) in (
      record s { subst = compose s.subst u.unifier; next = s.next + variable_count ball; built = s.built + size ball },
      unified_recovers g.S.Store g.L.Lists e c.args.goal ball s c.args.rest c.requires.2 mid c.meets.ensures.same c.meets.ensures.rest (c.in_ok-meets.ensures.fits s ball c.args.rest c.requires.2)
          g.met.L.Lists.words c.arg-recovery.result c.arg-recovery.ensures.holds u,
    )

pub returns-then-branch-clause-met : goal.returns-then-branch-clause-met
returns-then-branch-clause-met g c = λ s ball h.
    (let e = c.args.self.now in
    let mid = c.meets.new.self in
    let recovery = c.arg-recovery.result in
    let u : Unified (g.S.Store.present e.store) (g.S.Store.present mid.store) c.args.goal ball = rw c.if-branch.true at (c.in_ok-meets.ensures.met s ball c.args.rest h) in
    let recovers = unified_recovers g.S.Store g.L.Lists e c.args.goal ball s c.args.rest h mid c.meets.ensures.same c.meets.ensures.rest (c.in_ok-meets.ensures.fits s ball c.args.rest h) g.met.L.Lists.words recovery c.arg-recovery.ensures.holds u in
    let moved = recovery_moved g.S.Store g.L.Lists e c.args.goal ball s c.args.rest h mid c.meets.ensures.same c.meets.ensures.rest recovery c.arg-recovery.ensures.holds c.arg-recovery.ensures.value u in
    on_ok_weaker c.call_recovery.result (λ calling. inl (u.unifier, u.is, rw moved at calling)) (c.call_recovery.ensures.called (record s { subst = compose s.subst u.unifier; next = s.next + variable_count ball; built = s.built + size ball }) recovers))

pub returns-then-branch-clause-kept : goal.returns-then-branch-clause-kept
returns-then-branch-clause-kept g c = λ s ball h.
    (let e = c.args.self.now in
    let mid = c.meets.new.self in
    let u : Unified (g.S.Store.present e.store) (g.S.Store.present mid.store) c.args.goal ball = rw c.if-branch.true at (c.in_ok-meets.ensures.met s ball c.args.rest h) in
    c.call_recovery.ensures.kept (record s { subst = compose s.subst u.unifier; next = s.next + variable_count ball; built = s.built + size ball })
    (unified_recovers g.S.Store g.L.Lists e c.args.goal ball s c.args.rest h mid c.meets.ensures.same c.meets.ensures.rest (c.in_ok-meets.ensures.fits s ball c.args.rest h) g.met.L.Lists.words c.arg-recovery.result c.arg-recovery.ensures.holds u))

pub returns-clause-met : goal.returns-clause-met
returns-clause-met g c = λ s ball h.
    (let met = c.in_ok-meets.ensures.met s ball c.args.rest h in
    inr (rw c.if-branch.false at met, thrown_on g.S.Store g.L.Lists c.args.self.now c.args.goal ball s c.args.rest h c.meets.new.self c.meets.ensures.same c.meets.ensures.rest (c.in_ok-meets.ensures.back (ap Ok c.if-branch.false))))

pub returns-clause-costs : goal.returns-clause-costs
returns-clause-costs g c =
    let same = ap (λ (x : Search _ _ _ _ _ _ _ _ _ _). kept_cost g.L.Lists x) c.meets.ensures.same in
    let above = cost_above most (g.L.Lists.cost c.args.self.now.lists c.args.rest) in
    omega (arith, same, above)
