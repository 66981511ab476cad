use Rattle.std.proofs.Common.{subst}
use Rattle.iso_search.specs.Starts.{Comes}
use Rattle.iso_model.specs.Search.Additions.{consulted}
use Rattle.iso_model.specs.Terms.TermOf.{term_of}
use Rattle.iso_model.specs.Search.Walker.{World}
use Rattle.iso_model.proofs.Search.RunLaws.Likeness.{alike_world}
use Rattle.iso_search.proofs.Moves.Engine.{ready_stands, consults_stand, stands_base}
use Rattle.iso_search.proofs.LimitLemmas.{limits_stay, stays_on}
use Rattle.iso_search.proofs.RefusalLemmas.{refuses_by_term}
use Rattle.iso_search.proofs.engine.SearchEngine.consult.Goals as goal

pub returns-clause-consults : goal.returns-clause-consults
returns-clause-consults g c = λ s r.
    let before = ready_stands g.S.Store g.L.Lists c.args.self.now.now c.args.self.now s c.requires.ready r in
    let comes = c.add.ensures.comes before.own.world (c.clear.ensures.idle before.own.world before.engine.world) in
    consults_stand g.S.Store g.L.Lists (consulted (term_of c.args.clause.now) s.world.database) s c.add.result c.add.new.self
    (subst (λ (w : World). Comes g.S.Store g.L.Lists (consulted (term_of c.args.clause.now) w.database) w c.add.result c.add.new.self) (alike_world before.own s before.same) comes)

pub add-requires-clause-engine : goal.add-requires-clause-engine
add-requires-clause-engine g c =
    let before = ready_stands g.S.Store g.L.Lists c.args.self.now.now c.args.self.now c.requires.stands.0 c.requires.ready c.requires.stands.1 in
    (before.own.world, c.clear.ensures.idle before.own.world before.engine.world)

pub returns-clause-fits : goal.returns-clause-fits
returns-clause-fits g c =
    let before = ready_stands g.S.Store g.L.Lists c.args.self.now.now c.args.self.now c.requires.stands.0 c.requires.ready c.requires.stands.1 in
    let comes = c.add.ensures.comes before.own.world (c.clear.ensures.idle before.own.world before.engine.world) in
    refuses_by_term g.S.Store g.L.Lists (term_of c.args.clause.now) before.own.world c.add.result c.add.new.self c.requires.fits comes

pub returns-clause-limits : goal.returns-clause-limits
returns-clause-limits g c =
    let e = c.args.self.now in
    limits_stay g.S.Store g.met.S.Store.limit_stands g.L.Calls.over e c.add.new.self (stands_base g.S.Store g.L.Lists e.now e c.requires.stands.0 c.requires.stands.1) (stays_on g.S.Store c.clear.ensures.stays c.add.ensures.stays)
