use Rattle.std.proofs.Common.{[], ◌∷◌, ◌++◌, ap, sym, ◌∙◌, append-nil, arith}
use Rattle.std.proofs.Math.Seq.{take-length}
use Rattle.iso_model.specs.Terms.TermOf.{term_of}
use Rattle.iso_model.specs.Syntax.Pieces.{at_most, term_written}
use Rattle.iso_write.specs.declared.tasks.Place.TheVariants.{Whole}
use Rattle.iso_write.specs.declared.tasks.Task.TheVariants.{Placed}
use Rattle.iso_write.specs.Styles.{style_of}
use Rattle.iso_write.specs.Edges.{behind}
use Rattle.iso_write.specs.Tasks.{pieces_of, tasks_load}
use Rattle.iso_model.proofs.OnTerms.SeenRows.{kept_on}
use Rattle.iso_write.proofs.EdgeLemmas.{behind_piece}
use Rattle.iso_write.proofs.TaskLemmas.{with_tasks-append, tasks_load-append}
use Rattle.iso_write.proofs.written.append_text.Goals as goal

pub loop-task-init : goal.loop-task-init
loop-task-init c =
    let style = style_of c.args.manner.style in
    let table = c.args.manner.ops.now in
    let seen = c.args.manner.seen.now in
    let ps = at_most c.args.priority (term_written style table seen (term_of c.args.term.now)) in
    let first = ap (pieces_of style table seen) (c.in_ok-push.ensures.items ∙ ap (λ z. z ++ Placed c.args.term (Whole c.args.priority) ∷ []) c.new-todo.ensures.items) ∙ append-nil ps in
    record {
      text = ap (λ z. c.args.out.now.items ++ behind c.start-edge.result z) first ∙ ap (λ e. c.args.out.now.items ++ behind e ps) c.start-edge.ensures
          ∙ sym (ap (λ z. c.args.out.now.items ++ z) (behind_piece [] ps));
      kept = take-length c.args.out.now.items;
    }

pub loop-task-smaller : goal.loop-task-smaller
loop-task-smaller c =
    let popped = ap tasks_load c.in-Some.ensures.items ∙ tasks_load-append c.pop.new.self.items _ in
    let less = c.in_ok-edge.ensures.load in
    omega arith

pub loop-task-preserved : goal.loop-task-preserved
loop-task-preserved c =
    let style = style_of c.args.manner.style in
    let table = c.args.manner.ops.now in
    let seen = c.args.manner.seen.now in
    let popped = ap (pieces_of style table seen) c.in-Some.ensures.items ∙ with_tasks-append style table seen [] c.pop.new.self.items _ in
    record {
      text = c.in_ok-edge.ensures.text ∙ sym (ap (λ z. c.loop-task.out.items ++ behind c.loop-task.edge z) popped) ∙ c.loop-task.invariant.text;
      kept = kept_on c.args.out.now.items c.loop-task.out.items _ c.loop-task.invariant.kept c.take_turn.ensures.kept;
    }
