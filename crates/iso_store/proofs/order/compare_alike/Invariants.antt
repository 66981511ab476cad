-- What is left to be compared decides.
use Rattle.std.proofs.Common.{◌≡◌, ◌+◌, ◌*◌, [], length}
use Rattle.iso_model.specs.Terms.Trees.{row}
use Rattle.iso_model.specs.Terms.Order.{term_cmp}
use Rattle.iso_model.proofs.OnTerms.Cost.{cost}
use Rattle.iso_store_core.specs.Presents.{meaning}
use Rattle.iso_store.specs.Unifying.{Stands, ones, others}
use Rattle.iso_store.specs.Comparing.{order_left}
use Rattle.iso_store.proofs.order.compare_alike.Given as goal

abbrev pub invariant-loop-task : goal.invariant-loop-task
invariant-loop-task g l = record {
  stands : Stands (g.S.Primitives.present l.store) (g.S.Primitives.at_place l.store) l.joined [] [] l.tasks.items;
  order : order_left (g.S.Primitives.present l.store) [] [] l.tasks.items ≡ term_cmp (meaning (g.S.Primitives.present l.store) l.fn.one) (meaning (g.S.Primitives.present l.store) l.fn.other);
}

abbrev pub decreases-loop-task : goal.decreases-loop-task
decreases-loop-task g l = 3 * cost (row (ones (g.S.Primitives.present l.store) [] l.tasks.items)) (row (others (g.S.Primitives.present l.store) [] l.tasks.items)) + length l.tasks.items
