-- The values of words under a substitution.
use Rattle.std.specs.Prelude.{◌≡◌, ℕ, ◌≤◌, true}
use Rattle.iso_model.specs.Terms.Substitutions.{Subst, apply}
use Rattle.iso_model.specs.Search.RunLaws.Sameness.{IsTwice}
use Rattle.iso_store_core.specs.Presents.{Present, meaning, KeepsWords}

-- The words that stood in p have in q their values under the substitution, and so has each number that isn't used.
pub record HasValues {W : Type 0} (p q : Present W) (s : Subst) : Type 0 where
  pub words : KeepsWords p q
  pub means : (w : W) → p.holds w ≡ true → meaning q w ≡ apply s (p.term w)
  pub beyond : (n : ℕ) → q.next ≤ n → q.substitution n ≡ s n
  pub twice : IsTwice q.substitution
