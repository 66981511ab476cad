-- What is left to do makes the value of the expression of what comes next.
use Rattle.std.proofs.Common.{◌≡◌, ◌+◌}
use Rattle.std.specs.List.{All}
use Rattle.iso_model.specs.Search.Arithmetic.{value}
use Rattle.iso_store_core.specs.Presents.{meaning}
use Rattle.iso_arith.specs.Evaluations.{IsTask, IsNext, tasks_value, next_value, tasks_load, next_load}
use Rattle.iso_arith.proofs.evaluation.eval_any.Given as goal

abbrev pub invariant-evaluating : goal.invariant-evaluating
invariant-evaluating g l = record {
  tasks : All (IsTask (g.S.Store.present l.store)) l.tasks.items;
  next : IsNext (g.S.Store.present l.store) l.next;
  value : tasks_value (g.S.Store.present l.store) l.tasks.items (next_value (g.S.Store.present l.store) l.next) ≡ value (meaning (g.S.Store.present l.store) l.fn.expression);
}

abbrev pub decreases-evaluating : goal.decreases-evaluating
decreases-evaluating g l = next_load (g.S.Store.present l.store) l.next + tasks_load (g.S.Store.present l.store) l.tasks.items
