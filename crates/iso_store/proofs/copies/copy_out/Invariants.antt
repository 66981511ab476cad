-- What is left to do makes one term of the copies: what the word stands for.
use Rattle.std.proofs.Common.{◌≡◌, map, [], ◌∷◌}
use Rattle.std.specs.List.{All}
use Rattle.iso_model.specs.Terms.TermOf.{term_of}
use Rattle.iso_model.specs.Terms.Building.{with_steps, steps_load}
use Rattle.iso_store_core.specs.Presents.{meaning}
use Rattle.iso_store.specs.Tasks.{IsTask, steps_of}
use Rattle.iso_store.proofs.copies.copy_out.Given as goal

abbrev pub invariant-loop-task : goal.invariant-loop-task
invariant-loop-task g l = record {
  tasks : All (IsTask (g.S.Primitives.present l.store) (g.S.Primitives.names l.store)) l.tasks.items;
  steps : with_steps (steps_of (g.S.Primitives.present l.store) (g.S.Primitives.names l.store) l.tasks.items) (map term_of l.copies.items) ≡ meaning (g.S.Primitives.present l.store) l.fn.word ∷ [];
}

abbrev pub decreases-loop-task : goal.decreases-loop-task
decreases-loop-task g l = steps_load (steps_of (g.S.Primitives.present l.store) (g.S.Primitives.names l.store) l.tasks.items)
