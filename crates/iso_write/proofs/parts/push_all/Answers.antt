use Rattle.std.proofs.Common.{ap, ◌∙◌}
use Rattle.iso_write.specs.Tasks.{pieces_of, tasks_load}
use Rattle.iso_write.proofs.TaskLemmas.{on_ok_then, with_tasks-append, tasks_load-append}
use Rattle.iso_write.proofs.parts.push_all.Goals as goal

pub returns-clause-pieces : goal.returns-clause-pieces
returns-clause-pieces c = on_ok_then c.extend_from_slice.result (λ ok style table seen.
    let whole = rw ok at c.extend_from_slice.ensures.items in
    ap (pieces_of style table seen) whole ∙ with_tasks-append style table seen _ c.args.todo.now.items c.args.tasks.now)

pub returns-clause-load : goal.returns-clause-load
returns-clause-load c = on_ok_then c.extend_from_slice.result (λ ok.
    let whole = rw ok at c.extend_from_slice.ensures.items in
    ap tasks_load whole ∙ tasks_load-append c.args.todo.now.items c.args.tasks.now)
