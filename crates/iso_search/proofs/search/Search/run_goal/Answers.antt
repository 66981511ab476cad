use Rattle.std.proofs.Common.{rules, ◌-◌, refl, arith}
use Rattle.iso_model.specs.Terms.TermOf.{term_of}
use Rattle.iso_lib_core.proofs.ErrorLemmas.{existence_fits}
use Rattle.iso_store_core.proofs.RetainLemmas.{takes_same}
use Rattle.iso_search_core.proofs.StandingLemmas.{keeps_none}
use Rattle.iso_search.proofs.StoppedLemmas.{remains_all}
use Rattle.iso_search.proofs.Moves.Search.{refuses_here}
use Rattle.iso_search.proofs.RunLemmas.{ahead_step, one_less}
use Rattle.iso_search.proofs.Moves.Run.{at, spends, throws_unknown, fails_unknown}
use Rattle.iso_search.proofs.RunCosts.{fails_at_once, thrown_at_once}
use Rattle.iso_search.proofs.MovedLemmas.{moved_not, moved_on, moved_pauses}
use Rattle.iso_search.proofs.search.Search.run_goal.Goals as goal

pub returns-then-self-eq0 : goal.returns-then-self-eq0
returns-then-self-eq0 g c =
    moved_pauses g.S.Store g.L.Lists
    (λ s r. spends g.S.Store g.L.Lists c.args.self.now s c.args.next.goal c.args.next.rest c.requires.next.is r c.clear.new.self c.if-self-eq0.true c.clear.ensures.idle c.clear.ensures.now)
    tt (λ s r. tt) tt (search rules)

pub run_built_in-requires-clause-built_in : goal.run_built_in-requires-clause-built_in
run_built_in-requires-clause-built_in g c =
    let r = c.requires.stands.1 in
    let what = c.requires.next.called r.own.world r.engine.world in
    rw c.in-BuiltIn.is at what

-- ---- it fails

pub returns-in-Fails : goal.returns-in-Fails
returns-in-Fails g c =
    rw (c.goal_fails.ensures.goes, c.goal_fails.ensures.fails)
    (moved_on g.S.Store g.L.Lists
    (λ s r.
    (let what = c.requires.next.called r.own.world r.engine.world in
    fails_unknown g.S.Store g.L.Lists c.args.self.now s c.args.next.goal c.args.next.rest c.requires.next.is r c.if-self-eq0.false (rw c.in-Fails.is at what)))
    (fails_at_once g.S.Store g.L.Lists c.args.self.now c.args.next.goal c.args.next.rest c.requires.next.is c.if-self-eq0.false) (search rules))

-- ---- an unknown procedure

pub unknown_procedure-requires-clause-goal : goal.unknown_procedure-requires-clause-goal
unknown_procedure-requires-clause-goal g c = (at g.S.Store g.L.Lists c.args.self.now c.requires.stands.0 c.args.next.goal c.args.next.rest c.requires.next.is c.requires.stands.1).holds

pub unknown_procedure-requires-clause-named : goal.unknown_procedure-requires-clause-named
unknown_procedure-requires-clause-named g c =
    let r = c.requires.stands.1 in
    let what = rw c.in-Unknown.is at (c.requires.next.called r.own.world r.engine.world) in
    (what.0, what.1.named)

pub returns-in_err-ball-in-Unknown : goal.returns-in_err-ball-in-Unknown
returns-in_err-ball-in-Unknown g c =
    moved_not g.S.Store g.L.Lists c.from_residual.result c.from_residual.ensures.0
    (λ s r.
    (refuses_here g.S.Store g.L.Lists c.args.self.now r.own s r.same (remains_all g.S.Store g.L.Lists c.args.self.now r.own r.engine)))
    (search rules) (search rules)

pub throw-requires : goal.throw-requires
throw-requires g c =
    let r = c.requires.stands.1 in
    let what = rw c.in-Unknown.is at (c.requires.next.called r.own.world r.engine.world) in
    rw (c.in_ok-ball-in-Unknown.ensures what.0 what.1.named) (existence_fits what.0)

pub returns-in_ok-ball-in-Unknown : goal.returns-in_ok-ball-in-Unknown
returns-in_ok-ball-in-Unknown g c =
    moved_on g.S.Store g.L.Lists
    (λ s r.
    (let e = c.args.self.now in
    let a = at g.S.Store g.L.Lists e s c.args.next.goal c.args.next.rest c.requires.next.is r in
    let what = rw c.in-Unknown.is at (c.requires.next.called r.own.world r.engine.world) in
    let one = one_less e.steps c.if-self-eq0.false in
    let ahead = ahead_step g.S.Store g.L.Lists e e.store e.lists (record r.own { list = a.at.behind }) c.args.next.rest (e.steps - 1) 0 r.own.built r.own.subst a.at.ahead one (λ m p h. h) (λ place text h. h) (keeps_none g.L.Lists e.lists) (takes_same 0 refl) (omega arith) refl a.at.ahead.chain
    (record { stand = λ w h. h; terms = λ w h. refl }) a.at.ahead.goes.subst refl in
    throws_unknown g.S.Store g.L.Lists e s c.args.next.goal c.args.next.rest c.requires.next.is r c.throw.new.self (term_of c.in_ok-ball-in-Unknown.ball.term.value) c.if-self-eq0.false (what.0, what.1, what.2.0, what.2.1, c.in_ok-ball-in-Unknown.ensures what.0 what.1.named)
    (c.throw.ensures.thrown _ ahead) (rw c.throw.ensures.now tt)))
    (thrown_at_once g.S.Store g.L.Lists c.args.self.now c.args.next.goal c.args.next.rest c.requires.next.is c.if-self-eq0.false c.throw.new.self c.throw.ensures.now c.throw.ensures.same) (search rules)
