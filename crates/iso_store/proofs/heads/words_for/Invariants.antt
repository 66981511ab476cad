-- The first variables have words.
use Rattle.std.proofs.Common.{◌≡◌, ℕ, ◌≤◌, ◌+◌, ◌-◌, length, take, false}
use Rattle.iso_store_core.specs.Presents.{Grows, KeepsMarks}
use Rattle.iso_store.specs.Reading.{HasWords}
use Rattle.iso_store.proofs.heads.words_for.Given as goal

abbrev pub invariant-loop-index : goal.invariant-loop-index
invariant-loop-index g l = record {
  within : l.index ≤ length l.values;
  words : HasWords (g.S.Primitives.present l.fn.store) (g.S.Primitives.present l.store) l.first (take l.index l.values) l.words.items;
  cells : Grows (g.S.Primitives.present l.fn.store) (g.S.Primitives.present l.store) l.index l.index;
  free : (n : ℕ) → l.first + l.index ≤ n → (g.S.Primitives.present l.store).taken n ≡ false;
  names : g.S.Primitives.names l.store ≡ g.S.Primitives.names l.fn.store;
  marks : KeepsMarks (g.S.Primitives.stands l.fn.store) (g.S.Primitives.stands l.store);
}

abbrev pub decreases-loop-index : goal.decreases-loop-index
decreases-loop-index g l = length l.values - l.index
