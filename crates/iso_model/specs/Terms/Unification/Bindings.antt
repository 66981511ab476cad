-- What a unifier binds: only variables of its two terms, and to terms of those variables that it leaves alone.
use Rattle.std.proofs.Common.{◌≡◌, ◌≢◌, ℕ, true, false, ◌==◌, pos, inl, inr, refl, sym, ap, ◌∙◌, subst, if◌then◌else◌, le_antisymm}
use Rattle.std.proofs.lemmas.Bool.{eq-eqb, ne_eqb, cases_eq, false≢true}
use Rattle.iso_model.specs.Terms.Trees.{Tree, Variable, Integer}
use Rattle.iso_model.specs.Terms.Variables.{occurs}
use Rattle.iso_model.specs.Terms.Substitutions.{Subst, apply}
use Rattle.iso_model.specs.Terms.Unifiers.{Unifier}
use Rattle.iso_model.specs.Terms.Unification.Applied.{apply_same, alone_at}
use Rattle.iso_model.specs.Terms.Unification.Composed.{variable_from, unifier_twice}

-- s, but for the value of x
but : Subst → ℕ → Tree → Subst
but s x r n = if n == x then r else s n

but_at : (s : Subst) (x n : ℕ) (r : Tree) → n ≡ x → but s x r n ≡ r
unfolding but
but_at s x n r e = rw (eq-eqb n x e) refl

but_other : (s : Subst) (x n : ℕ) (r : Tree) → n ≢ x → but s x r n ≡ s n
unfolding but
but_other s x n r d = rw (ne_eqb n x d) refl

but_absent : (s : Subst) (x : ℕ) (r u : Tree) → occurs x u ≡ false → apply (but s x r) u ≡ apply s u
but_absent s x r u absent =
    apply_same (but s x r) s u (λ y o. but_other s x y r (λ e. false≢true (sym absent ∙ subst (λ k. occurs k u ≡ true) e o)))

but_absorbs : {a b : Tree} {s : Subst} (x : ℕ) (r : Tree) → Unifier a b s → occurs x a ≡ false → occurs x b ≡ false → (n : ℕ) → apply (but s x r) (s n) ≡ but s x r n
but_absorbs {a} {b} {s} x r h no_a no_b = h.most_general (but s x r) (but_absent s x r a no_a ∙ h.equal ∙ sym (but_absent s x r b no_b))

-- a variable of neither term is left alone
pub unifier_leaves : {a b : Tree} {s : Subst} → Unifier a b s → (x : ℕ) → occurs x a ≡ false → occurs x b ≡ false → s x ≡ Variable x
unifier_leaves {s = s} h x no_a no_b =
    let e = but_absorbs x (Variable x) h no_a no_b x ∙ but_at s x x (Variable x) refl in
    let v = variable_from (but s x (Variable x)) (s x) x e in
    let there : but s x (Variable x) v.0 ≡ Variable x = sym (ap (apply (but s x (Variable x))) v.1) ∙ e in
    elim (cases_eq v.0 x) [
      | inl same ↦ v.1 ∙ ap Variable same
      | inr other ↦ (let back = sym (but_other s x v.0 (Variable x) other) ∙ there in
          absurd (other (le_antisymm (h.least x v.0 v.1) (h.least v.0 x back))))
    ]

-- and stands in no other variable's value
pub unifier_brings : {a b : Tree} {s : Subst} → Unifier a b s → (x n : ℕ) → occurs x a ≡ false → occurs x b ≡ false → occurs x (s n) ≡ true → n ≡ x
unifier_brings {s = s} h x n no_a no_b o =
    elim (cases_eq n x) [
      | inl same ↦ same
      | inr other ↦ (let fixed = but_absorbs x (Integer (pos 0)) h no_a no_b n ∙ but_other s x n (Integer (pos 0)) other in
          let alone = alone_at (but s x (Integer (pos 0))) (s n) fixed x o in
          let value = but_at s x x (Integer (pos 0)) refl in
          cc)
    ]

-- a variable of an image is left alone
pub unifier_fixes : {a b : Tree} {s : Subst} → Unifier a b s → (n x : ℕ) → occurs x (s n) ≡ true → s x ≡ Variable x
unifier_fixes {s = s} h n x o = alone_at s (s n) (unifier_twice h n) x o
