-- What holds of the parts and terms that are left, and what solves it.
use Rattle.std.proofs.Common.{◌++◌, ◌∷◌, [], length}
use Rattle.iso_store_core.specs.Presents.{Holds, meaning}
use Rattle.iso_store.specs.Reading.{AreUnread, MayHaveArguments, left_terms}
use Rattle.iso_store.proofs.ReadHeads.{IsAhead}
use Rattle.iso_store.proofs.reading.read_head.Given as goal

abbrev pub invariant-loop-met : goal.invariant-loop-met
invariant-loop-met g l = record {
  ahead : IsAhead (g.S.Primitives.present l.store) (g.S.Primitives.names l.store) l.head (length l.fn.values.items) l.fn.goal l.values.items l.later.items
      (left_terms (g.S.Primitives.present l.store) (l.left.items ++ l.inner ∷ []) ++ meaning (g.S.Primitives.present l.store) l.word ∷ []) l.at;
  unread : AreUnread (g.S.Primitives.present l.store) l.left.items;
  inner : MayHaveArguments (g.S.Primitives.present l.store) l.inner;
  word : Holds (g.S.Primitives.present l.store) l.word;
}

abbrev pub decreases-loop-met : goal.decreases-loop-met
decreases-loop-met g l = l.at
