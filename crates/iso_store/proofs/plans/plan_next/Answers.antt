use Rattle.std.proofs.Common.{◌++◌, ◌∷◌, [], refl, ap, sym, ◌∙◌, is_some, rules}
use Rattle.std.proofs.lemmas.Int.{to_z-of_z}
use mir.Val.{SFits}
use mir.Syntax.{w128}
use Rattle.std.specs.List.{All}
use Rattle.std.proofs.lemmas.Bool.{false≢true}
use Rattle.std.proofs.lemmas.List.Elements.{All-push}
use Rattle.iso_atoms.specs.Texts.{text_at}
use Rattle.iso_model.specs.Terms.Building.{Give}
use Rattle.iso_store_core.specs.Presents.{meaning}
use Rattle.iso_store_core.specs.declared.patterns.Part.TheVariants.{Variable as Place, Integer as Number, Atom}
use Rattle.iso_store.specs.declared.plans.Task.TheVariants.{Plan, Make}
use Rattle.iso_store.specs.Planning.{IsTask, numbers, planned, step_of}
use Rattle.iso_store.proofs.TaskLemmas.{steps-compound, load-compound}
use Rattle.iso_store.proofs.PlanningTasks.{due-compound}
use Rattle.iso_store.proofs.PlanningLemmas.{leaf-planned, known-term, known-variable, other-tasks, task-there}
use Rattle.iso_store.proofs.plans.plan_next.Goals as goal

pub unreachable-requires : goal.unreachable-requires
unreachable-requires g c = false≢true (ap is_some (sym c.in_default.is ∙ c.place.ensures.variable c.in-Var.field-0 c.in-Var.ensures.shape))

pub unreachable-requires-in_default-at : goal.unreachable-requires-in_default-at
unreachable-requires-in_default-at g c =
    let n = c.in-Var.field-0 in
    let same = sym c.in-Some.is ∙ c.place.ensures.variable n c.in-Var.ensures.shape in
    known-variable (g.S.Primitives.present c.args.store.now) (g.S.Primitives.names c.args.store.now) (g.S.Primitives.at_place c.args.store.now) (g.S.Primitives.variable_place c.args.store.now) c.args.planning.now
    n c.in-Some.place (meaning (g.S.Primitives.present c.args.store.now) c.args.word) _ c.in-Var.ensures.shape same (sym c.at.ensures ∙ c.in_default-at.is) c.requires.covered c.requires.planning

pub returns-in_ok-push-in-Int-clause-planning : goal.returns-in_ok-push-in-Int-clause-planning
returns-in_ok-push-in-Int-clause-planning g c =
    let fits : SFits w128 c.in-Int.value = search rules in
    let more = rw (to_z-of_z w128 c.in-Int.value fits) at c.in_ok-push-in-Int.ensures.items in
    (leaf-planned _ _ _ _ c.args.planning.now c.push.new.self (Number c.in-Int.value) more _
    (ap (λ u. Give (u ∷ [])) (sym c.in-Int.ensures.shape)) refl tt tt c.requires.planning).0

pub returns-in_ok-push-in-Int-clause-steps : goal.returns-in_ok-push-in-Int-clause-steps
returns-in_ok-push-in-Int-clause-steps g c =
    let fits : SFits w128 c.in-Int.value = search rules in
    let more = rw (to_z-of_z w128 c.in-Int.value fits) at c.in_ok-push-in-Int.ensures.items in
    (leaf-planned _ _ _ _ c.args.planning.now c.push.new.self (Number c.in-Int.value) more _
    (ap (λ u. Give (u ∷ [])) (sym c.in-Int.ensures.shape)) refl tt tt c.requires.planning).1

pub returns-in_ok-push-in-Atom-clause-planning : goal.returns-in_ok-push-in-Atom-clause-planning
returns-in_ok-push-in-Atom-clause-planning g c =
    (leaf-planned _ _ _ _ c.args.planning.now c.push-in-Atom.new.self (Atom c.in-Atom.name) c.in_ok-push-in-Atom.ensures.items _
    (ap (λ u. Give (u ∷ [])) (sym c.in-Atom.ensures.shape.1)) refl c.in-Atom.ensures.shape.0 tt c.requires.planning).0

pub returns-in_ok-push-in-Atom-clause-steps : goal.returns-in_ok-push-in-Atom-clause-steps
returns-in_ok-push-in-Atom-clause-steps g c =
    (leaf-planned _ _ _ _ c.args.planning.now c.push-in-Atom.new.self (Atom c.in-Atom.name) c.in_ok-push-in-Atom.ensures.items _
    (ap (λ u. Give (u ∷ [])) (sym c.in-Atom.ensures.shape.1)) refl c.in-Atom.ensures.shape.0 tt c.requires.planning).1

pub returns-in_ok-push-in-Var-clause-planning : goal.returns-in_ok-push-in-Var-clause-planning
returns-in_ok-push-in-Var-clause-planning g c =
    let known = known-term _ _ _ _ c.args.planning.now c.in-Some.place c.in-Some-at.index _ _ c.requires.planning (sym c.at.ensures ∙ c.in-Some-at.is) c.in-Some.ensures.value in
    (leaf-planned _ _ _ _ c.args.planning.now c.push-in-Var.new.self (Place c.in-Some-at.index) c.in_ok-push-in-Var.ensures.items _
    known.0 refl tt known.1 c.requires.planning).0

pub returns-in_ok-push-in-Var-clause-steps : goal.returns-in_ok-push-in-Var-clause-steps
returns-in_ok-push-in-Var-clause-steps g c =
    let known = known-term _ _ _ _ c.args.planning.now c.in-Some.place c.in-Some-at.index _ _ c.requires.planning (sym c.at.ensures ∙ c.in-Some-at.is) c.in-Some.ensures.value in
    (leaf-planned _ _ _ _ c.args.planning.now c.push-in-Var.new.self (Place c.in-Some-at.index) c.in_ok-push-in-Var.ensures.items _
    known.0 refl tt known.1 c.requires.planning).1

pub returns-in-Some-at-2-clause-planning : goal.returns-in-Some-at-2-clause-planning
returns-in-Some-at-2-clause-planning g c =
    let known = known-term _ _ _ _ c.args.planning.now c.in-Some-place.place c.in-Some-at-2.index _ _ c.requires.planning (sym c.at-in-Compound.ensures ∙ c.in-Some-at-2.is) c.in-Some-place.ensures.value in
    (leaf-planned _ _ _ _ c.args.planning.now c.push-in-Some-at-2.new.self (Place c.in-Some-at-2.index) c.in_ok-push-in-Compound.ensures.items _
    known.0 refl tt known.1 c.requires.planning).0

pub returns-in-Some-at-2-clause-steps : goal.returns-in-Some-at-2-clause-steps
returns-in-Some-at-2-clause-steps g c =
    let known = known-term _ _ _ _ c.args.planning.now c.in-Some-place.place c.in-Some-at-2.index _ _ c.requires.planning (sym c.at-in-Compound.ensures ∙ c.in-Some-at-2.is) c.in-Some-place.ensures.value in
    (leaf-planned _ _ _ _ c.args.planning.now c.push-in-Some-at-2.new.self (Place c.in-Some-at-2.index) c.in_ok-push-in-Compound.ensures.items _
    known.0 refl tt known.1 c.requires.planning).1

pub returns-in_ok-push-in-Compound-3-clause-planning : goal.returns-in_ok-push-in-Compound-3-clause-planning
returns-in_ok-push-in-Compound-3-clause-planning g c =
    let p = g.S.Primitives.present c.args.store.now in
    let names = g.S.Primitives.names c.args.store.now in
    let at = g.S.Primitives.at_place c.args.store.now in
    let l = c.args.planning.now in
    let here = c.in-Compound.ensures.shape in
    let one = All-push (IsTask p names (numbers p l)) l.tasks.items (Make c.in-Compound.name c.in-Compound.count c.in-Some-place.place) c.requires.planning.there here.0 in
    let plan = task-there p names (numbers p l) c.args.word c.in-Compound.count _ here.1 c.requires.word here.2 here.3 c.in-Compound.ensures.term c.requires.covered in
    let there : All (IsTask p names (numbers p l)) c.push-in-Compound-2.new.self.items =
    rw (c.in_ok-push-in-Compound-3.ensures.items, c.in_ok-push-in-Compound-2.ensures.items)
    (All-push (IsTask p names (numbers p l)) (l.tasks.items ++ Make c.in-Compound.name c.in-Compound.count c.in-Some-place.place ∷ []) (Plan c.args.word 0 c.in-Compound.count) one plan) in
    let due = due-compound p names at l.tasks.items _ c.push-in-Compound-2.new.self.items c.args.word c.in-Compound.name c.in-Compound.count c.in-Some-place.place here.1 here.2 here.3
    c.in-Compound.ensures.term c.in-Some-place.ensures.value c.in_ok-push-in-Compound-2.ensures.items c.in_ok-push-in-Compound-3.ensures.items (planned p names l).terms c.requires.planning.due in
    other-tasks p names at (g.S.Primitives.variable_place c.args.store.now) l c.push-in-Compound-2.new.self _ _ there due c.requires.planning

pub returns-in_ok-push-in-Compound-3-clause-steps : goal.returns-in_ok-push-in-Compound-3-clause-steps
returns-in_ok-push-in-Compound-3-clause-steps g c =
    let p = g.S.Primitives.present c.args.store.now in
    let names = g.S.Primitives.names c.args.store.now in
    let l = c.args.planning.now in
    let here = c.in-Compound.ensures.shape in
    steps-compound (step_of p names) l.tasks.items _ _ _ _ (meaning p c.args.word) (text_at names c.in-Compound.name) c.in-Compound.count here.1 here.2 here.3 c.in-Compound.ensures.term refl refl
    c.in_ok-push-in-Compound-2.ensures.items c.in_ok-push-in-Compound-3.ensures.items (planned p names l).terms

pub returns-in_ok-push-in-Compound-3-clause-load : goal.returns-in_ok-push-in-Compound-3-clause-load
returns-in_ok-push-in-Compound-3-clause-load g c =
    let p = g.S.Primitives.present c.args.store.now in
    let names = g.S.Primitives.names c.args.store.now in
    let here = c.in-Compound.ensures.shape in
    load-compound (step_of p names) c.args.planning.now.tasks.items _ _ _ _ (meaning p c.args.word) (text_at names c.in-Compound.name) c.in-Compound.count here.1 here.2 here.3 c.in-Compound.ensures.term refl refl
    c.in_ok-push-in-Compound-2.ensures.items c.in_ok-push-in-Compound-3.ensures.items
