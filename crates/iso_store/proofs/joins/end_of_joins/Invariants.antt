-- The word so far stands for the same term, at an earlier place.
use Rattle.std.proofs.Common.{◌≡◌}
use Rattle.iso_store_core.specs.Presents.{Holds, meaning}
use Rattle.iso_store.specs.Unifying.{AreJoined}
use Rattle.iso_store.proofs.joins.end_of_joins.Given as goal

abbrev pub invariant-loop-next : goal.invariant-loop-next
invariant-loop-next g l = record {
  joined : AreJoined (g.S.Primitives.present l.store) (g.S.Primitives.at_place l.store) l.joined;
  holds : Holds (g.S.Primitives.present l.store) l.end;
  value : meaning (g.S.Primitives.present l.store) l.end ≡ meaning (g.S.Primitives.present l.store) l.fn.word;
  place : g.S.Primitives.at_place l.store l.place ≡ meaning (g.S.Primitives.present l.store) l.end;
}

abbrev pub decreases-loop-next : goal.decreases-loop-next
decreases-loop-next g l = l.place
