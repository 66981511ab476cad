-- The arguments from a place on are left to be compared, and decide.
use Rattle.std.proofs.Common.{◌≡◌, ◌-◌, [], ◌∷◌, ◌++◌}
use Rattle.iso_store.specs.declared.unify.Task.TheVariants.{Arguments}
use Rattle.iso_store.specs.Unifying.{IsPair, Stands}
use Rattle.iso_store.specs.Comparing.{order_left}
use Rattle.iso_store.proofs.EndLemmas.{IsEnd}
use Rattle.iso_store.proofs.PairLemmas.{Leads}
use Rattle.iso_store.proofs.order.compare_arguments.Given as goal

abbrev pub invariant-comparing : goal.invariant-comparing
invariant-comparing g l = record {
  one : IsEnd (g.S.Primitives.present l.store) l.one l.one_end l.count;
  other : IsEnd (g.S.Primitives.present l.store) l.other l.other_end l.count;
  pair : IsPair (g.S.Primitives.present l.store) (Arguments l.one l.other l.index l.count);
  stands : Stands (g.S.Primitives.present l.store) (g.S.Primitives.at_place l.store) l.joined [] [] (l.tasks.items ++ Arguments l.one l.other l.index l.count ∷ []);
  leads : Leads (g.S.Primitives.present l.store) (g.S.Primitives.present l.store)
      (l.fn.tasks.items ++ Arguments l.one l.other l.fn.index l.count ∷ []) (l.tasks.items ++ Arguments l.one l.other l.index l.count ∷ []);
  order : order_left (g.S.Primitives.present l.store) [] [] (l.tasks.items ++ Arguments l.one l.other l.index l.count ∷ [])
      ≡ order_left (g.S.Primitives.present l.store) [] [] (l.fn.tasks.items ++ Arguments l.one l.other l.fn.index l.count ∷ []);
}

abbrev pub decreases-comparing : goal.decreases-comparing
decreases-comparing g l = l.count - l.index
