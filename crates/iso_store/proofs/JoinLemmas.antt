-- Words that stand for the terms at places.
use Rattle.std.proofs.Common.{◌≡◌, ℕ, ◌==◌, refl, sym, ap, ◌∙◌, Some, inl, inr, if◌then◌else◌}
use Rattle.std.proofs.lemmas.Bool.{cases_eq, eq-eqb, ne_eqb}
use Rattle.iso_model.specs.Terms.Trees.{Tree}
use Rattle.iso_model.specs.Terms.Substitutions.{Subst, apply}
use Rattle.iso_store.specs.declared.notes.Notes.{Notes}
use Rattle.iso_store_core.specs.Presents.{Present, Holds, meaning, Binds}
use Rattle.iso_store.specs.Notes.{noted}
use Rattle.iso_store.specs.Unifying.{AreJoined}
use Rattle.iso_store.proofs.Bound.{binds-meaning}

-- one more, of the place k
pub joined-more : {W : Type 0} (p : Present W) (at : ℕ → Tree) (old new : Notes W) (k : ℕ) (w : W) → AreJoined p at old → Holds p w → meaning p w ≡ at k
    → ((j : ℕ) → noted new j ≡ (if j == k then Some w else noted old j)) → AreJoined p at new
joined-more p at old new k w joined holds here more j v is =
    elim (cases_eq j k) [
      | inl same ↦
          let e : Some w ≡ Some v = sym (more j ∙ rw (eq-eqb j k same) refl) ∙ is in
          let which : w ≡ v = cc in
          (ap p.holds (sym which) ∙ holds, ap (meaning p) (sym which) ∙ here ∙ ap at (sym same))
      | inr other ↦ joined j v (sym (more j ∙ rw (ne_eqb j k other) refl) ∙ is)
    ]

-- and once s is bound
pub joined-bound : {W : Type 0} {p q : Present W} {s : Subst} (at now : ℕ → Tree) (joined : Notes W) → Binds p q s → ((k : ℕ) → now k ≡ apply s (at k)) → AreJoined p at joined → AreJoined q now joined
joined-bound {W} {p} {q} {s} at now joined bound places joins k w is =
    let j = joins k w is in
    (bound.words.stand w j.0, binds-meaning bound w j.0 ∙ ap (apply s) j.1 ∙ sym (places k))
