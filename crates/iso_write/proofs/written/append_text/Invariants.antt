-- What the tasks that are left stand for makes up the whole text; what there was at first stands in front.
use Rattle.std.proofs.Common.{◌≡◌, ◌++◌, take, length}
use Rattle.iso_model.specs.Terms.TermOf.{term_of}
use Rattle.iso_model.specs.Syntax.Pieces.{text_at}
use Rattle.iso_write.specs.Styles.{style_of}
use Rattle.iso_write.specs.Edges.{behind}
use Rattle.iso_write.specs.Tasks.{pieces_of, tasks_load}
use Rattle.iso_write.proofs.written.append_text.Given as goal

abbrev pub invariant-loop-task : goal.invariant-loop-task
invariant-loop-task l = record {
  text : l.out.items ++ behind l.edge (pieces_of (style_of l.manner.style) l.manner.ops.now l.manner.seen.now l.todo.items)
      ≡ l.fn.out.items ++ text_at (style_of l.manner.style) l.manner.ops.now l.manner.seen.now l.priority (term_of l.term);
  kept : take (length l.fn.out.items) l.out.items ≡ l.fn.out.items;
}

abbrev pub decreases-loop-task : goal.decreases-loop-task
decreases-loop-task l = tasks_load l.todo.items
