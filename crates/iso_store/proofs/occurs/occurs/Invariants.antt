-- The variable is in what is left where it is in the whole.
use Rattle.std.proofs.Common.{◌≡◌, false, sum_by}
use Rattle.std.specs.List.{All}
use Rattle.iso_model.specs.Terms.Variables.{occurs}
use Rattle.iso_store_core.specs.Presents.{meaning}
use Rattle.iso_store.specs.Searching.{IsThere, IsClear, AreSound, found, load}
use Rattle.iso_store.proofs.occurs.occurs.Given as goal

abbrev pub invariant-loop-task : goal.invariant-loop-task
invariant-loop-task g l = record {
  clear : IsClear (g.S.Primitives.at_place l.store) l.number l.searched;
  there : All (IsThere (g.S.Primitives.present l.store)) l.tasks.items;
  sound : AreSound (g.S.Primitives.present l.store) (g.S.Primitives.at_place l.store) l.number false l.tasks.items;
  found : found (g.S.Primitives.present l.store) (g.S.Primitives.at_place l.store) l.number false l.tasks.items ≡ occurs l.number (meaning (g.S.Primitives.present l.store) l.fn.word);
}

abbrev pub decreases-loop-task : goal.decreases-loop-task
decreases-loop-task g l = sum_by (load (g.S.Primitives.present l.store)) l.tasks.items
