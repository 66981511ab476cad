-- The words so far came for the terms of the first parts, with the new variables by their numbers.
use Rattle.std.proofs.Common.{◌≡◌, ℕ, ◌+◌, length, map, take, [], Some, None, slice_get, false}
use Rattle.iso_model.specs.Terms.Trees.{row}
use Rattle.iso_model.specs.Terms.Variables.{occurs, variables}
use Rattle.iso_model.specs.Terms.Substitutions.{apply}
use Rattle.iso_store_core.specs.Presents.{Gathers, TakesFrom, Grows, KeepsMarks}
use Rattle.iso_store_core.specs.Copying.{cells_of}
use Rattle.iso_store_core.specs.Patterns.{after_parts}
use Rattle.iso_store.specs.HeapBuilds.{numbered}
use Rattle.iso_store.specs.Renewals.{HaveWords}
use Rattle.iso_store.proofs.renewals.renew.Given as goal

abbrev pub invariant-loop-part : goal.invariant-loop-part
invariant-loop-part g l = record {
  gathers : Gathers (g.S.Primitives.present l.initial.store) (g.S.Primitives.present l.store) l.words.items (map (apply (numbered l.first)) (after_parts (g.S.Primitives.names l.initial.store) (take l.part-index l.parts) []));
  known : HaveWords (g.S.Primitives.present l.store) l.first l.known.items;
  left : (k : ℕ) → slice_get l.known.items k ≡ Some None → occurs k (row (after_parts (g.S.Primitives.names l.initial.store) (take l.part-index l.parts) [])) ≡ false;
  count : length l.known.items ≡ l.count;
  numbers : TakesFrom (g.S.Primitives.present l.initial.store) (g.S.Primitives.present l.store) l.first;
  cells : Grows (g.S.Primitives.present l.initial.store) (g.S.Primitives.present l.store)
      (length (variables (row (after_parts (g.S.Primitives.names l.initial.store) (take l.part-index l.parts) []))) + cells_of g.S.Primitives.atomic g.S.Primitives.width (row (after_parts (g.S.Primitives.names l.initial.store) (take l.part-index l.parts) [])))
      (length (variables (row (after_parts (g.S.Primitives.names l.initial.store) (take l.part-index l.parts) []))));
  names : g.S.Primitives.names l.store ≡ g.S.Primitives.names l.initial.store;
  marks : KeepsMarks (g.S.Primitives.stands l.initial.store) (g.S.Primitives.stands l.store);
}
