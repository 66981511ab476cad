-- What is bound so far, and what is left to be made equal.
use Rattle.std.proofs.Common.{◌≡◌, ◌+◌, ◌*◌, [], ◌∷◌, ◌++◌, length}
use Rattle.iso_model.specs.Terms.Trees.{row}
use Rattle.iso_model.specs.Terms.Substitutions.{Subst}
use Rattle.iso_model.proofs.OnTerms.Cost.{cost}
use Rattle.iso_store_core.specs.Presents.{meaning, Binds, Grows, KeepsMarks}
use Rattle.iso_store.specs.Unifying.{LeftBy, Stands, ones, others}
use Rattle.iso_store.proofs.unify.unify_compounds.Given as goal

abbrev pub invariant-working : goal.invariant-working
invariant-working g l = record {
  bound : (r : Subst)
      × LeftBy (meaning (g.S.Primitives.present l.fn.store) l.fn.one ∷ []) (meaning (g.S.Primitives.present l.fn.store) l.fn.other ∷ [])
      (ones (g.S.Primitives.present l.store) [] (l.tasks.items ++ l.task ∷ [])) (others (g.S.Primitives.present l.store) [] (l.tasks.items ++ l.task ∷ [])) r
      × Binds (g.S.Primitives.present l.fn.store) (g.S.Primitives.present l.store) r;
  stands : Stands (g.S.Primitives.present l.store) (g.S.Primitives.at_place l.store) l.notes.joined [] [] (l.tasks.items ++ l.task ∷ []);
  cells : Grows (g.S.Primitives.present l.fn.store) (g.S.Primitives.present l.store) 0 0;
  names : g.S.Primitives.names l.store ≡ g.S.Primitives.names l.fn.store;
  marks : KeepsMarks (g.S.Primitives.stands l.fn.store) (g.S.Primitives.stands l.store);
}

abbrev pub decreases-working : goal.decreases-working
decreases-working g l = 3 * cost (row (ones (g.S.Primitives.present l.store) [] (l.tasks.items ++ l.task ∷ []))) (row (others (g.S.Primitives.present l.store) [] (l.tasks.items ++ l.task ∷ []))) + length (l.tasks.items ++ l.task ∷ [])
