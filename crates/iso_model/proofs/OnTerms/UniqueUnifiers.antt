-- Two terms have at most one unifier.
use Rattle.std.proofs.Common.{◌≡◌, ℕ, true, sym, ap, ◌∙◌, le_antisymm}
use Rattle.iso_model.specs.Terms.Trees.{Tree, Variable}
use Rattle.iso_model.specs.Terms.Variables.{occurs}
use Rattle.iso_model.specs.Terms.Substitutions.{Subst, apply, compose}
use Rattle.iso_model.specs.Terms.Unifiers.{Unifier}
use Rattle.iso_model.specs.Terms.Unification.Applied.{apply_apply, apply_alone, alone_at}
use Rattle.iso_model.specs.Terms.Unification.Composed.{variable_from}

module _ (a b : Tree) (s t : Subst) (h : Unifier a b s) (k : Unifier a b t) where
  -- going over to the other unifier and back changes no value
  there_and_back : (n : ℕ) → apply (compose t s) (s n) ≡ s n
  there_and_back n =
      sym (apply_apply t s (s n)) ∙ ap (apply s) (h.most_general t k.equal n) ∙ k.most_general s h.equal n

  -- so the variables in a value are named alike by both
  alike : (n x : ℕ) → occurs x (s n) ≡ true → t x ≡ Variable x
  alike n x o =
      let back : apply s (t x) ≡ Variable x = alone_at (compose t s) (s n) (there_and_back n) x o in
      let v = variable_from s (t x) x back in
      let named : s v.0 ≡ Variable x = sym (ap (apply s) v.1) ∙ back in
      v.1 ∙ ap Variable (le_antisymm (k.least x v.0 v.1) (h.least v.0 x named))

  pub values_same : (n : ℕ) → s n ≡ t n
  values_same n = sym (apply_alone t (s n) (alike n)) ∙ h.most_general t k.equal n

  pub unifier_unique : s ≡ t
  unifier_unique = λ i. λ n. values_same n i
