use Rattle.std.proofs.Common.{[], Err, ap, refl, subst, ◌∙◌}
use Rattle.iso_search.specs.EngineStates.{Keeps, StandsFor}
use Rattle.iso_model.specs.Search.Walker.{started, World}
use Rattle.iso_model.specs.Terms.TermOf.{term_of}
use Rattle.iso_model.specs.declared.limit.Limit.TheVariants as limit
use Rattle.iso_search_core.specs.declared.nows.Now.TheVariants as now
use Rattle.iso_model.proofs.Search.RunLaws.Likeness.{alike_world}
use Rattle.iso_search.proofs.Moves.Engine.{ready_stands, represents_stands, stands_base}
use Rattle.iso_search_core.specs.Fitting.{FitsAhead}
use Rattle.iso_search_core.proofs.FittingLemmas.{fits_itself}
use Rattle.iso_search.proofs.LimitLemmas.{full_above, limits_stay, stays_next, stays_on}
use Rattle.iso_search.proofs.StoppedLemmas.{stopped_before}
use Rattle.iso_search.proofs.engine.SearchEngine.start.Goals as goal

pub returns-in_default-clause-starts : goal.returns-in_default-clause-starts
returns-in_default-clause-starts g c = λ s r.
    (let before = ready_stands g.S.Store g.L.Lists c.args.self.now.now c.args.self.now s c.requires.ready r in
    let w = before.own.world in
    let new = c.begin.new.self in
    let stands = represents_stands g.S.Store g.L.Lists new.now new (started (term_of c.args.goal.now) c.args.budget w) (c.in_default.ensures.started w (c.clear.ensures.idle w before.engine.world)) in (
      subst (λ (v : World). StandsFor g.S.Store g.L.Lists new (started (term_of c.args.goal.now) c.args.budget v)) (alike_world before.own s before.same) stands,
      c.in_default.ensures.midway,
    ))

pub returns-in-Full-clause-starts : goal.returns-in-Full-clause-starts
returns-in-Full-clause-starts g c = λ s r.
    (let before = ready_stands g.S.Store g.L.Lists c.args.self.now.now c.args.self.now s c.requires.ready r in
    let w = before.own.world in
    let kept = c.in-Err.ensures.kept w (c.clear.ensures.idle w before.engine.world) in
    (stopped_before g.S.Store g.L.Lists (record c.begin.new.self { now = now.Spent limit.Heap }) s (subst (λ (v : World). Keeps g.S.Store g.L.Lists c.begin.new.self v []) (alike_world before.own s before.same) kept), refl))

pub returns-in-NoMemory-clause-starts : goal.returns-in-NoMemory-clause-starts
returns-in-NoMemory-clause-starts g c = λ s r.
    (let before = ready_stands g.S.Store g.L.Lists c.args.self.now.now c.args.self.now s c.requires.ready r in
    let w = before.own.world in
    let kept = c.in-Err.ensures.kept w (c.clear.ensures.idle w before.engine.world) in
    (stopped_before g.S.Store g.L.Lists (record c.begin.new.self { now = now.Spent limit.Memory }) s (subst (λ (v : World). Keeps g.S.Store g.L.Lists c.begin.new.self v []) (alike_world before.own s before.same) kept), refl))

-- ---- limits

pub returns-in_default-clause-limits : goal.returns-in_default-clause-limits
returns-in_default-clause-limits g c =
    let e = c.args.self.now in
    limits_stay g.S.Store g.met.S.Store.limit_stands g.L.Calls.over e c.begin.new.self (stands_base g.S.Store g.L.Lists e.now e c.requires.stands.0 c.requires.stands.1) (stays_on g.S.Store c.clear.ensures.stays c.begin.ensures.stays)

pub returns-in-Full-clause-limit : goal.returns-in-Full-clause-limit
returns-in-Full-clause-limit g c = λ s r.
    (let before = ready_stands g.S.Store g.L.Lists c.args.self.now.now c.args.self.now s c.requires.ready r in
    let w = before.own.world in
    let new = c.begin.new.self in
    let goal = term_of c.args.goal.now in
    let fits = c.begin.ensures.fits w (c.in-Err.is ∙ ap Err c.in-Full.is) (c.clear.ensures.idle w before.engine.world) in
    let full = c.begin.ensures.full (c.in-Err.is ∙ ap Err c.in-Full.is) in
    let ahead = fits_itself g.S.Store (g.S.Store.present new.store) (started goal c.args.budget w) fits in
    full_above g.S.Store g.met.S.Store.full_used (record new { now = now.Spent limit.Heap }) (started goal c.args.budget s.world) full
    (subst (λ (v : World). FitsAhead g.S.Store (g.S.Store.present new.store) (started goal c.args.budget v)) (alike_world before.own s before.same) ahead))

pub returns-in-Full-clause-limits : goal.returns-in-Full-clause-limits
returns-in-Full-clause-limits g c =
    let e = c.args.self.now in
    limits_stay g.S.Store g.met.S.Store.limit_stands g.L.Calls.over e (record c.begin.new.self { now = now.Spent limit.Heap }) (stands_base g.S.Store g.L.Lists e.now e c.requires.stands.0 c.requires.stands.1)
    (stays_next g.S.Store (now.Spent limit.Heap) (stays_on g.S.Store c.clear.ensures.stays c.begin.ensures.stays))

pub returns-in-NoMemory-clause-limits : goal.returns-in-NoMemory-clause-limits
returns-in-NoMemory-clause-limits g c =
    let e = c.args.self.now in
    limits_stay g.S.Store g.met.S.Store.limit_stands g.L.Calls.over e (record c.begin.new.self { now = now.Spent limit.Memory }) (stands_base g.S.Store g.L.Lists e.now e c.requires.stands.0 c.requires.stands.1)
    (stays_next g.S.Store (now.Spent limit.Memory) (stays_on g.S.Store c.clear.ensures.stays c.begin.ensures.stays))
