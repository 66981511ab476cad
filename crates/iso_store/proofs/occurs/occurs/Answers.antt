use Rattle.std.proofs.Common.{sym, ap, ◌∙◌, Some}
use Rattle.std.proofs.lemmas.List.Elements.{All-pop}
use Rattle.iso_model.specs.Terms.Variables.{occurs}
use Rattle.iso_store_core.specs.Presents.{meaning}
use Rattle.iso_store.specs.Searching.{IsThere, found}
use Rattle.iso_store.proofs.SearchLemmas.{found-true}
use Rattle.iso_store.proofs.occurs.occurs.Goals as goal

pub returns-then-branch : goal.returns-then-branch
returns-then-branch g c =
    let p = g.S.Primitives.present c.args.store.now in
    let at = g.S.Primitives.at_place c.args.store.now in
    let here = rw c.if-branch.true at c.in_ok-look_into.ensures.found in
    sym (found-true p at c.args.number c.look_into.new.tasks.items) ∙ here ∙ ap (found p at c.args.number (occurs c.args.number (meaning p c.args.word))) c.clear.ensures.items

pub do_task-requires-clause-task : goal.do_task-requires-clause-task
do_task-requires-clause-task g c = (All-pop (IsThere (g.S.Primitives.present c.args.store.now)) _ _ (Some c.in-Some-pop.task) c.in-Some-pop.ensures.items c.loop-task.invariant.there).1

pub returns-then-branch-2 : goal.returns-then-branch-2
returns-then-branch-2 g c =
    let p = g.S.Primitives.present c.args.store.now in
    let at = g.S.Primitives.at_place c.args.store.now in
    let here = rw (c.if-branch-2.true, sym c.in-Some-pop.ensures.items) at c.in_ok-do_task.ensures.found in
    sym (found-true p at c.args.number c.do_task.new.tasks.items) ∙ here ∙ c.loop-task.invariant.found
