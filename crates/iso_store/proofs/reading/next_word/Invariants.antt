-- Only variables were read so far.
use Rattle.std.proofs.Common.{◌≡◌, ◌≤◌, ◌++◌, ◌∷◌, [], length}
use Rattle.iso_store.specs.Reading.{AreUnread, MayHaveArguments, left_terms}
use Rattle.iso_store.proofs.ReadUnread.{ReadOver}
use Rattle.iso_store.proofs.reading.next_word.Given as goal

abbrev pub invariant-loop-inner : goal.invariant-loop-inner
invariant-loop-inner g l = record {
  fewer : l.at ≤ l.past;
  values : length l.values.items ≡ length l.fn.values.items;
  unread : AreUnread (g.S.Primitives.present l.store) l.left.items;
  inner : MayHaveArguments (g.S.Primitives.present l.store) l.inner;
  read : ReadOver (g.S.Primitives.present l.store) (g.S.Primitives.names l.store) l.head (length l.fn.values.items) l.past l.fn.values.items (left_terms (g.S.Primitives.present l.store) (l.fn.left.items ++ l.fn.inner ∷ [])) l.values.items
      (left_terms (g.S.Primitives.present l.store) (l.left.items ++ l.inner ∷ [])) l.at;
}

abbrev pub decreases-loop-inner : goal.decreases-loop-inner
decreases-loop-inner g l = length l.left.items
