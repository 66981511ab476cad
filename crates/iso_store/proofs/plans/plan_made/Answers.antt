use Rattle.iso_store.proofs.PlanningLemmas.{made-terms, made-planned}
use Rattle.std.proofs.Common.{refl, ap, ◌∙◌, ◌+◌}
use Rattle.iso_store.proofs.plans.plan_made.Goals as goal

pub returns-clause-planning : goal.returns-clause-planning
returns-clause-planning g c =
    let p = g.S.Primitives.present c.args.store.now in
    let names = g.S.Primitives.names c.args.store.now in
    let l = c.args.planning.now in
    let due = c.requires.due in
    made-planned p names (g.S.Primitives.at_place c.args.store.now) (g.S.Primitives.variable_place c.args.store.now) l c.push.new.self c.note.new.self c.args.name c.args.count c.args.place c.in_ok-push.ensures.items
    (c.len.result + l.made) _ (ap (λ n. n + l.made) (c.len.ensures ∙ l.variables.ok.0)) c.requires.task due.0 c.in_ok-note.ensures refl c.requires.planning

pub returns-clause-terms : goal.returns-clause-terms
returns-clause-terms g c =
    let p = g.S.Primitives.present c.args.store.now in
    let names = g.S.Primitives.names c.args.store.now in
    made-terms p names (g.S.Primitives.at_place c.args.store.now) (g.S.Primitives.variable_place c.args.store.now) c.args.planning.now c.push.new.self c.note.new.self c.args.name c.args.count c.args.place c.in_ok-push.ensures.items
