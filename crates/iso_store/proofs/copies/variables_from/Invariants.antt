-- The words so far are those of the first numbers.
use Rattle.std.proofs.Common.{◌≡◌, ◌≤◌, ◌+◌, ℕ, map, false}
use Rattle.iso_model.specs.Terms.Trees.{Variable}
use Rattle.iso_model.specs.Terms.Copies.{numbers_from}
use Rattle.iso_store_core.specs.Presents.{Gathers, TakesFrom, Grows, KeepsMarks}
use Rattle.iso_store.proofs.copies.variables_from.Given as goal

abbrev pub invariant-loop-place : goal.invariant-loop-place
invariant-loop-place g l = record {
  gathers : Gathers (g.S.Primitives.present l.fn.store) (g.S.Primitives.present l.store) l.words.items (map Variable (numbers_from l.first l.place));
  numbers : TakesFrom (g.S.Primitives.present l.fn.store) (g.S.Primitives.present l.store) l.first;
  free : (n : ℕ) → l.first + l.place ≤ n → (g.S.Primitives.present l.store).taken n ≡ false;
  cells : Grows (g.S.Primitives.present l.fn.store) (g.S.Primitives.present l.store) l.place l.place;
  each_cell : (g.S.Primitives.present l.fn.store).cells + l.place ≤ (g.S.Primitives.present l.store).cells;
  names : g.S.Primitives.names l.store ≡ g.S.Primitives.names l.fn.store;
  marks : KeepsMarks (g.S.Primitives.stands l.fn.store) (g.S.Primitives.stands l.store);
}
