use Rattle.std.proofs.Common.{map, refl}
use Rattle.iso_model.specs.Terms.TermOf.{term_of}
use Rattle.iso_model.proofs.OnTerms.CopyingLemmas.{on_ok_by}
use Rattle.iso_store_core.specs.Presents.{meaning}
use Rattle.iso_store.specs.Tasks.{step_of}
use Rattle.iso_store.proofs.TaskLemmas.{steps-last, steps-argument, load-last, load-argument}
use Rattle.iso_store.proofs.copies.copy_argument.Goals as goal

pub returns-then-index-count-clause-steps : goal.returns-then-index-count-clause-steps
returns-then-index-count-clause-steps g c =
    let p = g.S.Primitives.present c.args.store.now in
    let task = c.requires.task in
    on_ok_by c.copy_next.result c.copy_next.ensures.steps
    (steps-last c.args.index c.args.count (meaning p c.args.word) (meaning p c.arg-argument.result) task.1 task.2 c.arg-argument.ensures.value (step_of p (g.S.Primitives.names c.args.store.now)) c.args.tasks.now.items (map term_of c.args.copies.now.items) _ c.if-index-count.true)

pub returns-then-index-count-clause-load : goal.returns-then-index-count-clause-load
returns-then-index-count-clause-load g c =
    let p = g.S.Primitives.present c.args.store.now in
    let task = c.requires.task in
    on_ok_by c.copy_next.result c.copy_next.ensures.load (load-last c.args.index c.args.count (meaning p c.args.word) (meaning p c.arg-argument.result) task.1 task.2 c.arg-argument.ensures.value _ _)

pub returns-clause-steps : goal.returns-clause-steps
returns-clause-steps g c =
    let p = g.S.Primitives.present c.args.store.now in
    let task = c.requires.task in
    on_ok_by c.copy_next-2.result c.copy_next-2.ensures.steps
    (steps-argument c.args.index c.args.count (meaning p c.args.word) (meaning p c.arg-argument.result) task.1 task.2 c.arg-argument.ensures.value (step_of p (g.S.Primitives.names c.args.store.now)) c.args.tasks.now.items _ _ c.in_ok-push.ensures.items refl (map term_of c.args.copies.now.items) _)

pub returns-clause-load : goal.returns-clause-load
returns-clause-load g c =
    let p = g.S.Primitives.present c.args.store.now in
    let task = c.requires.task in
    on_ok_by c.copy_next-2.result c.copy_next-2.ensures.load
    (load-argument c.args.index c.args.count (meaning p c.args.word) (meaning p c.arg-argument.result) task.1 task.2 c.arg-argument.ensures.value (step_of p (g.S.Primitives.names c.args.store.now)) c.args.tasks.now.items _ _ c.in_ok-push.ensures.items refl _)
