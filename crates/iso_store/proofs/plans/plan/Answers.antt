use Rattle.std.proofs.Common.{◌∷◌, [], map, sym, ap, ◌∙◌, subst, arith, Some, ◌≡◌}
use Rattle.std.proofs.lemmas.List.Elements.{All-pop}
use Rattle.iso_model.specs.Terms.Trees.{Variable}
use Rattle.iso_model.specs.Terms.Variables.{variables}
use Rattle.iso_model.specs.Terms.Unification.Listed.{Covers, distinct_covers}
use Rattle.iso_model.proofs.OnTerms.BuildingLemmas.{with_steps-more, steps_load-more}
use Rattle.iso_store_core.specs.Presents.{meaning}
use Rattle.iso_store.specs.Planning.{IsTask, numbers, numbers_of, planned, step_of}
use Rattle.iso_store.proofs.PlanningTasks.{due-parts}
use Rattle.iso_store.proofs.PlanningLemmas.{numbers-are, other-tasks}
use Rattle.iso_store.proofs.plans.plan.Goals as goal

pub place_variables-requires-clause-variables : goal.place_variables-requires-clause-variables
place_variables-requires-clause-variables g c =
    let p = g.S.Primitives.present c.args.store.now in
    let same = numbers-are p c.args.words.items (variables (meaning p c.args.word)) c.requires.variables in
    subst (λ ws. map (meaning p) ws ≡ map Variable (numbers_of p ws)) (sym c.as_slice.ensures.value) (c.requires.variables ∙ ap (map Variable) (sym same))

pub plan_next-requires-clause-covered : goal.plan_next-requires-clause-covered
plan_next-requires-clause-covered g c =
    let p = g.S.Primitives.present c.args.store.now in
    let same = numbers-are p c.args.words.items (variables (meaning p c.args.word)) c.requires.variables in
    subst (λ vs. Covers vs (meaning p c.args.word)) (sym same) (distinct_covers [] (meaning p c.args.word))

pub do_task-requires-clause-task : goal.do_task-requires-clause-task
do_task-requires-clause-task g c =
    let p = g.S.Primitives.present c.args.store.now in
    let names = g.S.Primitives.names c.args.store.now in
    (All-pop (IsTask p names (numbers p c.loop-task.planning)) _ _ (Some c.in-Some.task) c.in-Some.ensures.items c.loop-task.invariant.planning.there).1

pub do_task-requires-clause-due : goal.do_task-requires-clause-due
do_task-requires-clause-due g c =
    let p = g.S.Primitives.present c.args.store.now in
    let names = g.S.Primitives.names c.args.store.now in
    let at = g.S.Primitives.at_place c.args.store.now in
    let l = c.loop-task.planning in
    (due-parts p names at (planned p names l).terms c.pop.new.self.items (c.in-Some.task ∷ []) (rw c.in-Some.ensures.items at c.loop-task.invariant.planning.due)).1

pub do_task-requires-clause-planning : goal.do_task-requires-clause-planning
do_task-requires-clause-planning g c =
    let p = g.S.Primitives.present c.args.store.now in
    let names = g.S.Primitives.names c.args.store.now in
    let at = g.S.Primitives.at_place c.args.store.now in
    let l = c.loop-task.planning in
    let due = (due-parts p names at (planned p names l).terms c.pop.new.self.items (c.in-Some.task ∷ []) (rw c.in-Some.ensures.items at c.loop-task.invariant.planning.due)).0 in
    let there = (All-pop (IsTask p names (numbers p l)) _ _ (Some c.in-Some.task) c.in-Some.ensures.items c.loop-task.invariant.planning.there).0 in
    other-tasks p names at (g.S.Primitives.variable_place c.args.store.now) l c.pop.new.self _ _ there due c.loop-task.invariant.planning

pub loop-task-smaller : goal.loop-task-smaller
loop-task-smaller g c =
    let p = g.S.Primitives.present c.args.store.now in
    let names = g.S.Primitives.names c.args.store.now in
    let popped = steps_load-more (step_of p names) c.pop.new.self.items c.loop-task.planning.tasks.items c.in-Some.task c.in-Some.ensures.items in
    let less = c.in_ok-do_task.ensures.load in
    omega (arith, popped, less)

pub loop-task-preserved : goal.loop-task-preserved
loop-task-preserved g c =
    let p = g.S.Primitives.present c.args.store.now in
    let names = g.S.Primitives.names c.args.store.now in
    let l = c.loop-task.planning in
    let popped = with_steps-more (step_of p names) c.pop.new.self.items l.tasks.items c.in-Some.task c.in-Some.ensures.items (planned p names l).terms in
    record {
      planning = c.in_ok-do_task.ensures.planning;
      steps = c.in_ok-do_task.ensures.steps ∙ sym popped ∙ c.loop-task.invariant.steps;
      variables = c.do_task.ensures.variables ∙ c.loop-task.invariant.variables;
    }
