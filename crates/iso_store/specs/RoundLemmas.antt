-- Rounds of bindings: enough of them are one substitution, and one binding more composes it with that binding.
use Rattle.std.proofs.Common.{◌≡◌, ℕ, zero, suc, true, false, refl, ap, sym, ◌∙◌, Option, Some, None}
use Rattle.std.proofs.lemmas.Bool.{false≢true, eqb-true}
use Rattle.iso_model.specs.Terms.Trees.{Tree, Variable}
use Rattle.iso_model.specs.Terms.Variables.{occurs}
use Rattle.iso_model.specs.Terms.Substitutions.{Subst, apply}
use Rattle.iso_model.specs.Terms.Unification.Applied.{apply_same, occurs_from}
use Rattle.iso_store.specs.Rounds.{is_bound, bound_or_itself, rounds, Settles}

pub not_bound : (o : Option Tree) → is_bound o ≡ false → o ≡ None
not_bound None h = refl
not_bound (Some t) h = absurd (false≢true (sym h))

module _ (b : ℕ → Option Tree) where
  pub settles_more : (k n : ℕ) → Settles b k n → Settles b (suc k) n
  settles_more zero n h = λ t is m o. let both : None ≡ Some t = sym (not_bound (b n) h) ∙ is in absurd (cc)
  settles_more (suc k) n h = λ t is m o. settles_more k m (h t is m o)

  pub rounds_none : (k n : ℕ) → b n ≡ None → rounds b k n ≡ Variable n
  rounds_none zero n h = refl
  rounds_none (suc k) n h = ap (λ o. apply (rounds b k) (bound_or_itself n o)) h ∙ rounds_none k n h

  pub rounds_some : (k n : ℕ) (t : Tree) → b n ≡ Some t → rounds b (suc k) n ≡ apply (rounds b k) t
  rounds_some k n t h = ap (λ o. apply (rounds b k) (bound_or_itself n o)) h

  -- a round more changes nothing
  stable_at : (k n : ℕ) (o : Option Tree) → b n ≡ o → Settles b k n → rounds b (suc k) n ≡ rounds b k n
  stable_at k n None is h = rounds_none (suc k) n is ∙ sym (rounds_none k n is)
  stable_at zero n (Some t) is h = let both : None ≡ Some t = sym (not_bound (b n) h) ∙ is in absurd (cc)
  stable_at (suc k) n (Some t) is h =
      rounds_some (suc k) n t is ∙ apply_same (rounds b (suc k)) (rounds b k) t (λ m o. stable_at k m (b m) refl (h t is m o)) ∙ sym (rounds_some k n t is)

  pub rounds_bound : (k n : ℕ) (t : Tree) → Settles b k n → b n ≡ Some t → rounds b k n ≡ apply (rounds b k) t
  rounds_bound k n t h is = sym (stable_at k n (b n) refl h) ∙ rounds_some k n t is

  -- the variables that are left are not bound
  left_at : (k n : ℕ) (o : Option Tree) → b n ≡ o → Settles b k n → (m : ℕ) → occurs m (rounds b k n) ≡ true → b m ≡ None
  left_at k n None is h m inside =
      let same = eqb-true n m (ap (occurs m) (sym (rounds_none k n is)) ∙ inside) in
      ap b (sym same) ∙ is
  left_at zero n (Some t) is h m inside = let both : None ≡ Some t = sym (not_bound (b n) h) ∙ is in absurd (cc)
  left_at (suc k) n (Some t) is h m inside =
      let from = occurs_from (rounds b k) t m (ap (occurs m) (sym (rounds_some k n t is)) ∙ inside) in
      left_at k from.0 (b from.0) refl (h t is from.0 from.1) m from.2

  pub rounds_left : (k n : ℕ) → Settles b k n → (m : ℕ) → occurs m (rounds b k n) ≡ true → b m ≡ None
  rounds_left k n h m inside = left_at k n (b n) refl h m inside

  -- a substitution that puts in what is bound, and nothing else, is these rounds
  only_at : (s : Subst) → ((n : ℕ) → b n ≡ None → s n ≡ Variable n) → ((n : ℕ) (t : Tree) → b n ≡ Some t → s n ≡ apply s t) → (k n : ℕ) (o : Option Tree) → b n ≡ o → Settles b k n → rounds b k n ≡ s n
  only_at s free bound k n None is h = rounds_none k n is ∙ sym (free n is)
  only_at s free bound zero n (Some t) is h = let both : None ≡ Some t = sym (not_bound (b n) h) ∙ is in absurd (cc)
  only_at s free bound (suc k) n (Some t) is h =
      rounds_some k n t is ∙ apply_same (rounds b k) s t (λ m o. only_at s free bound k m (b m) refl (h t is m o)) ∙ sym (bound n t is)

  pub rounds_only : (s : Subst) → ((n : ℕ) → b n ≡ None → s n ≡ Variable n) → ((n : ℕ) (t : Tree) → b n ≡ Some t → s n ≡ apply s t) → (k n : ℕ) → Settles b k n → rounds b k n ≡ s n
  rounds_only s free bound k n h = only_at s free bound k n (b n) refl h
