-- What was planned, and what is left, make one term: what the word stands for.
use Rattle.std.proofs.Common.{◌≡◌, [], ◌∷◌}
use Rattle.iso_model.specs.Terms.Building.{with_steps, steps_load}
use Rattle.iso_store_core.specs.Presents.{meaning}
use Rattle.iso_store.specs.Planning.{IsPlanning, planned, steps_of}
use Rattle.iso_store.proofs.plans.plan.Given as goal

abbrev pub invariant-loop-task : goal.invariant-loop-task
invariant-loop-task g l = record {
  planning : IsPlanning (g.S.Primitives.present l.store) (g.S.Primitives.names l.store) (g.S.Primitives.at_place l.store) (g.S.Primitives.variable_place l.store)
      (planned (g.S.Primitives.present l.store) (g.S.Primitives.names l.store) l.planning).terms l.planning;
  steps : with_steps (steps_of (g.S.Primitives.present l.store) (g.S.Primitives.names l.store) l.planning.tasks.items) (planned (g.S.Primitives.present l.store) (g.S.Primitives.names l.store) l.planning).terms
      ≡ meaning (g.S.Primitives.present l.store) l.fn.word ∷ [];
  variables : l.planning.variables ≡ l.initial.planning.variables;
}

abbrev pub decreases-loop-task : goal.decreases-loop-task
decreases-loop-task g l = steps_load (steps_of (g.S.Primitives.present l.store) (g.S.Primitives.names l.store) l.planning.tasks.items)
