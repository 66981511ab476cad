-- What is bound so far, and that the arguments from a place on are left to be made equal.
use Rattle.std.proofs.Common.{◌≡◌, ◌-◌, [], ◌∷◌, ◌++◌}
use Rattle.iso_store_core.specs.Presents.{Grows, KeepsMarks}
use Rattle.iso_store.specs.declared.unify.Task.TheVariants.{Arguments}
use Rattle.iso_store.specs.Unifying.{IsPair, Stands}
use Rattle.iso_store.proofs.EndLemmas.{IsEnd}
use Rattle.iso_store.proofs.PairLemmas.{Leads}
use Rattle.iso_store.proofs.unify.unify_arguments.Given as goal

abbrev pub invariant-meeting : goal.invariant-meeting
invariant-meeting g l = record {
  one : IsEnd (g.S.Primitives.present l.store) l.one l.one_end l.count;
  other : IsEnd (g.S.Primitives.present l.store) l.other l.other_end l.count;
  pair : IsPair (g.S.Primitives.present l.store) (Arguments l.one l.other l.index l.count);
  stands : Stands (g.S.Primitives.present l.store) (g.S.Primitives.at_place l.store) l.notes.joined [] [] (l.tasks.items ++ Arguments l.one l.other l.index l.count ∷ []);
  leads : Leads (g.S.Primitives.present l.fn.store) (g.S.Primitives.present l.store)
      (l.fn.tasks.items ++ Arguments l.one l.other l.fn.index l.count ∷ []) (l.tasks.items ++ Arguments l.one l.other l.index l.count ∷ []);
  cells : Grows (g.S.Primitives.present l.fn.store) (g.S.Primitives.present l.store) 0 0;
  names : g.S.Primitives.names l.store ≡ g.S.Primitives.names l.fn.store;
  marks : KeepsMarks (g.S.Primitives.stands l.fn.store) (g.S.Primitives.stands l.store);
}

abbrev pub decreases-meeting : goal.decreases-meeting
decreases-meeting g l = l.count - l.index
