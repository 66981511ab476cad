use Rattle.std.proofs.Common.{◌<◌, ◌+◌, ◌++◌, refl, subst, arith}
use Rattle.std.specs.List.{All}
use Rattle.std.proofs.lemmas.List.Elements.{All-push}
use Rattle.iso_model.proofs.OnTerms.CopyingLemmas.{on_ok_by}
use Rattle.iso_store_core.specs.Presents.{meaning}
use Rattle.iso_store.specs.declared.plans.Task.TheVariants.{Plan}
use Rattle.iso_store.specs.Planning.{IsPlanning, IsTask, numbers, planned, step_of}
use Rattle.iso_store.proofs.ArgumentLemmas.{arguments-last}
use Rattle.iso_store.proofs.TaskLemmas.{steps-last, steps-argument, load-last, load-argument}
use Rattle.iso_store.proofs.PlanningTasks.{due-argument}
use Rattle.iso_store.proofs.PlanningLemmas.{covers-argument, other-tasks}
use Rattle.iso_store.proofs.plans.plan_argument.Goals as goal

pub plan_next-requires-clause-covered : goal.plan_next-requires-clause-covered
plan_next-requires-clause-covered g c =
    let p = g.S.Primitives.present c.args.store.now in
    let task = c.requires.task in
    covers-argument (numbers p c.args.planning.now) c.args.index c.args.count (meaning p c.args.word) (meaning p c.arg-argument.result) task.1 task.2 c.arg-argument.ensures.value task.3

pub plan_next-requires-clause-planning : goal.plan_next-requires-clause-planning
plan_next-requires-clause-planning g c =
    let p = g.S.Primitives.present c.args.store.now in
    let names = g.S.Primitives.names c.args.store.now in
    let l = c.args.planning.now in
    let task = c.requires.task in
    subst (λ us. IsPlanning p names (g.S.Primitives.at_place c.args.store.now) (g.S.Primitives.variable_place c.args.store.now) ((planned p names l).terms ++ us) l)
    (arguments-last c.args.index c.args.count (meaning p c.args.word) (meaning p c.arg-argument.result) task.1 task.2 c.arg-argument.ensures.value c.if-index-count.true) c.requires.planning

pub returns-then-index-count-clause-steps : goal.returns-then-index-count-clause-steps
returns-then-index-count-clause-steps g c =
    let p = g.S.Primitives.present c.args.store.now in
    let names = g.S.Primitives.names c.args.store.now in
    let l = c.args.planning.now in
    let task = c.requires.task in
    on_ok_by c.plan_next.result c.plan_next.ensures.steps
    (steps-last c.args.index c.args.count (meaning p c.args.word) (meaning p c.arg-argument.result) task.1 task.2 c.arg-argument.ensures.value (step_of p names) l.tasks.items (planned p names l).terms _ c.if-index-count.true)

pub returns-then-index-count-clause-load : goal.returns-then-index-count-clause-load
returns-then-index-count-clause-load g c =
    let p = g.S.Primitives.present c.args.store.now in
    let task = c.requires.task in
    on_ok_by c.plan_next.result c.plan_next.ensures.load
    (load-last c.args.index c.args.count (meaning p c.args.word) (meaning p c.arg-argument.result) task.1 task.2 c.arg-argument.ensures.value _ _)

pub plan_next-requires-2-clause-covered : goal.plan_next-requires-2-clause-covered
plan_next-requires-2-clause-covered g c =
    let p = g.S.Primitives.present c.args.store.now in
    let task = c.requires.task in
    covers-argument (numbers p c.args.planning.now) c.args.index c.args.count (meaning p c.args.word) (meaning p c.arg-argument.result) task.1 task.2 c.arg-argument.ensures.value task.3

pub plan_next-requires-2-clause-planning : goal.plan_next-requires-2-clause-planning
plan_next-requires-2-clause-planning g c =
    let p = g.S.Primitives.present c.args.store.now in
    let names = g.S.Primitives.names c.args.store.now in
    let at = g.S.Primitives.at_place c.args.store.now in
    let l = c.args.planning.now in
    let task = c.requires.task in
    let below : c.args.index + 1 < c.args.count = let less = task.1 in let other = c.if-index-count.false in omega arith in
    let there : All (IsTask p names (numbers p l)) c.push.new.self.items =
    rw c.in_ok-push.ensures.items (All-push (IsTask p names (numbers p l)) l.tasks.items (Plan c.args.word (c.args.index + 1) c.args.count) c.requires.planning.there (task.0, below, task.2, task.3)) in
    let due = due-argument p names at l.tasks.items c.args.word c.args.index c.args.count task.1 task.2 (meaning p c.arg-argument.result) c.arg-argument.ensures.value (planned p names l).terms c.push.new.self.items c.in_ok-push.ensures.items c.requires.planning.due in
    other-tasks p names at (g.S.Primitives.variable_place c.args.store.now) l c.push.new.self _ _ there due c.requires.planning

pub returns-clause-steps : goal.returns-clause-steps
returns-clause-steps g c =
    let p = g.S.Primitives.present c.args.store.now in
    let names = g.S.Primitives.names c.args.store.now in
    let l = c.args.planning.now in
    let task = c.requires.task in
    on_ok_by c.plan_next-2.result c.plan_next-2.ensures.steps
    (steps-argument c.args.index c.args.count (meaning p c.args.word) (meaning p c.arg-argument.result) task.1 task.2 c.arg-argument.ensures.value (step_of p names) l.tasks.items _ _ c.in_ok-push.ensures.items refl (planned p names l).terms _)

pub returns-clause-load : goal.returns-clause-load
returns-clause-load g c =
    let p = g.S.Primitives.present c.args.store.now in
    let names = g.S.Primitives.names c.args.store.now in
    let task = c.requires.task in
    on_ok_by c.plan_next-2.result c.plan_next-2.ensures.load
    (load-argument c.args.index c.args.count (meaning p c.args.word) (meaning p c.arg-argument.result) task.1 task.2 c.arg-argument.ensures.value (step_of p names) c.args.planning.now.tasks.items _ _ c.in_ok-push.ensures.items refl _)
