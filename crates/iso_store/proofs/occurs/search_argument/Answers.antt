use Rattle.std.proofs.Common.{sym}
use Rattle.iso_store_core.specs.Presents.{meaning}
use Rattle.iso_model.proofs.OnTerms.CopyingLemmas.{on_ok_by}
use Rattle.iso_store.proofs.SearchLemmas.{occurs-last, found-argument, sound-argument, load-push}
use Rattle.iso_store.proofs.TaskLemmas.{load-last, load-more}
use Rattle.iso_store.proofs.occurs.search_argument.Goals as goal

pub look_into-requires-clause-sound : goal.look_into-requires-clause-sound
look_into-requires-clause-sound g c =
    let p = g.S.Primitives.present c.args.store.now in
    let at = g.S.Primitives.at_place c.args.store.now in
    let task = c.requires.task in
    let now = occurs-last p at c.args.number c.args.tasks.now.items c.args.word c.args.index c.args.count task.1 task.2 _ c.arg-argument.ensures.value c.if-index-count.true in
    rw now at c.requires.sound

pub returns-then-index-count-clause-found : goal.returns-then-index-count-clause-found
returns-then-index-count-clause-found g c =
    let p = g.S.Primitives.present c.args.store.now in
    let at = g.S.Primitives.at_place c.args.store.now in
    let task = c.requires.task in
    let now = occurs-last p at c.args.number c.args.tasks.now.items c.args.word c.args.index c.args.count task.1 task.2 _ c.arg-argument.ensures.value c.if-index-count.true in
    rw now c.look_into.ensures.found

pub returns-then-index-count-clause-load : goal.returns-then-index-count-clause-load
returns-then-index-count-clause-load g c =
    let p = g.S.Primitives.present c.args.store.now in
    let task = c.requires.task in
    on_ok_by c.look_into.result c.look_into.ensures.load (load-last c.args.index c.args.count (meaning p c.args.word) (meaning p c.arg-argument.result) task.1 task.2 c.arg-argument.ensures.value _ _)

pub look_into-requires-2-clause-sound : goal.look_into-requires-2-clause-sound
look_into-requires-2-clause-sound g c =
    let p = g.S.Primitives.present c.args.store.now in
    let at = g.S.Primitives.at_place c.args.store.now in
    let task = c.requires.task in
    sound-argument p at c.args.number c.args.tasks.now.items c.args.word c.args.index c.args.count task.1 task.2 _ c.arg-argument.ensures.value c.push.new.self.items c.in_ok-push.ensures.items c.requires.sound

pub returns-clause-found : goal.returns-clause-found
returns-clause-found g c =
    let p = g.S.Primitives.present c.args.store.now in
    let at = g.S.Primitives.at_place c.args.store.now in
    let task = c.requires.task in
    let now = found-argument p at c.args.number c.args.tasks.now.items c.args.word c.args.index c.args.count task.1 task.2 _ c.arg-argument.ensures.value c.push.new.self.items c.in_ok-push.ensures.items in
    rw (sym now) c.look_into-2.ensures.found

pub returns-clause-load : goal.returns-clause-load
returns-clause-load g c =
    let p = g.S.Primitives.present c.args.store.now in
    let task = c.requires.task in
    on_ok_by c.look_into-2.result c.look_into-2.ensures.load (load-more c.args.index c.args.count (meaning p c.args.word) (meaning p c.arg-argument.result) task.1 task.2 c.arg-argument.ensures.value _ _ _ (load-push p _ _ _ c.in_ok-push.ensures.items))
