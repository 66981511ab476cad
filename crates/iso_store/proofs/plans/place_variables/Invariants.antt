-- What is noted is the place of a variable, and those that were passed are noted.
use Rattle.std.proofs.Common.{◌≡◌, ◌<◌, ℕ, map, Some, IsSome, slice_get}
use Rattle.iso_model.specs.Terms.Trees.{Variable}
use Rattle.iso_store_core.specs.Presents.{meaning}
use Rattle.iso_store.specs.Notes.{noted}
use Rattle.iso_store.proofs.plans.place_variables.Given as goal

abbrev pub invariant-loop-index : goal.invariant-loop-index
invariant-loop-index g l = record {
  sound : (k i : ℕ) → noted l.places k ≡ Some i → slice_get (map (meaning (g.S.Primitives.present l.store)) l.variables) i ≡ Some (g.S.Primitives.at_place l.store k);
  known : (j n : ℕ) → j < l.index → slice_get (map (meaning (g.S.Primitives.present l.store)) l.variables) j ≡ Some (Variable n) → IsSome (noted l.places (g.S.Primitives.variable_place l.store n));
}
