-- Rounds with one binding more.
use Rattle.std.proofs.Common.{◌≡◌, ◌≢◌, ℕ, zero, suc, ◌==◌, true, false, refl, ap, sym, ◌∙◌, Option, Some, None, inl, inr, if◌then◌else◌}
use Rattle.std.proofs.lemmas.Bool.{false≢true, eq-eqb, ne_eqb, cases_eq, false_from_ne_true}
use Rattle.iso_model.specs.Terms.Trees.{Tree, Variable}
use Rattle.iso_model.specs.Terms.Variables.{occurs}
use Rattle.iso_model.specs.Terms.Substitutions.{Subst, apply, compose, single}
use Rattle.iso_model.specs.Terms.Unification.Applied.{apply_apply, occurs_in, single_at, single_other, apply_single_absent}
use Rattle.iso_store.specs.Rounds.{is_bound, rounds, Settles, then_rounds}
use Rattle.iso_store.specs.RoundLemmas.{not_bound, settles_more, rounds_none, rounds_bound, rounds_only}

-- these bindings, and that of x to t
abbrev pub bound_also : (ℕ → Option Tree) → ℕ → Tree → ℕ → Option Tree
bound_also b x t n = if n == x then Some t else b n

settles_add : (b : ℕ → Option Tree) (k j n : ℕ) → Settles b j n → Settles b (then_rounds k j) n
settles_add b zero j n h = h
settles_add b (suc k) j n h = settles_more b (then_rounds k j) n (settles_add b k j n h)

-- where enough rounds are made, and x is not bound and not in what t stands for
module _ (b : ℕ → Option Tree) (enough : ℕ) (settled : (n : ℕ) → Settles b enough n) (x : ℕ) (t : Tree) (free : b x ≡ None) (absent : occurs x (apply (rounds b enough) t) ≡ false) where
  abbrev s : Subst
  s = rounds b enough

  abbrev more : ℕ → Option Tree
  more = bound_also b x t

  at_x : more x ≡ Some t
  at_x = rw (eq-eqb x x refl) refl

  elsewhere : (n : ℕ) → n ≢ x → more n ≡ b n
  elsewhere n other = rw (ne_eqb n x other) refl

  not_x : (n : ℕ) → occurs x (s n) ≡ false → n ≢ x
  not_x n clear same =
      let itself : s n ≡ Variable x = ap s same ∙ rounds_none b enough x free in
      false≢true (sym clear ∙ ap (occurs x) itself ∙ eq-eqb x x refl)

  -- a variable that doesn't lead to x
  clear_settles : (k n : ℕ) → Settles b k n → occurs x (s n) ≡ false → Settles more k n
  clear_settles zero n h clear = ap is_bound (elsewhere n (not_x n clear)) ∙ h
  clear_settles (suc k) n h clear = λ u is m o.
      let before : b n ≡ Some u = sym (elsewhere n (not_x n clear)) ∙ is in
      let value = rounds_bound b enough n u (settled n) before in
      clear_settles k m (h u before m o) (false_from_ne_true (occurs x (s m)) (λ inside. false≢true (sym clear ∙ ap (occurs x) value ∙ occurs_in s u m x o inside)))

  inside_settles : (u : Tree) → more x ≡ Some u → (m : ℕ) → occurs m u ≡ true → Settles more enough m
  inside_settles u is m o =
      let both : Some t ≡ Some u = sym at_x ∙ is in
      let same : t ≡ u = cc in
      let here : occurs m t ≡ true = ap (occurs m) same ∙ o in
      clear_settles enough m (settled m) (false_from_ne_true (occurs x (s m)) (λ inside. false≢true (sym absent ∙ occurs_in s t m x here inside)))

  all_settle : (k n : ℕ) → Settles b k n → Settles more (then_rounds k (suc enough)) n
  all_settle zero n h = λ u is m o.
      elim (cases_eq n x) [
        | inl same ↦ inside_settles u (ap more (sym same) ∙ is) m o
        | inr other ↦ let both : None ≡ Some u = sym (not_bound (b n) h) ∙ sym (elsewhere n other) ∙ is in absurd (cc)
      ]
  all_settle (suc k) n h = λ u is m o.
      elim (cases_eq n x) [
        | inl same ↦ settles_add more k (suc enough) m (settles_more more enough m (inside_settles u (ap more (sym same) ∙ is) m o))
        | inr other ↦ all_settle k m (h u (sym (elsewhere n other) ∙ is) m o)
      ]

  pub settled_also : (n : ℕ) → Settles (bound_also b x t) (then_rounds enough (suc enough)) n
  settled_also n = all_settle enough n (settled n)

  r : Tree
  r = apply (rounds b enough) t

  after : Subst
  after = compose (rounds b enough) (single x (apply (rounds b enough) t))

  after_free : (n : ℕ) → more n ≡ None → after n ≡ Variable n
  unfolding after
  after_free n is =
      elim (cases_eq n x) [
        | inl same ↦ let both : Some t ≡ None = sym at_x ∙ ap more (sym same) ∙ is in absurd (cc)
        | inr other ↦ ap (apply (single x (apply s t))) (rounds_none b enough n (sym (elsewhere n other) ∙ is)) ∙ single_other x n (apply s t) other
      ]

  after_bound : (n : ℕ) (u : Tree) → more n ≡ Some u → after n ≡ apply after u
  unfolding after
  after_bound n u is =
      elim (cases_eq n x) [
        | inl same ↦
            let both : Some t ≡ Some u = sym at_x ∙ ap more (sym same) ∙ is in
            let target : t ≡ u = cc in
            let left : after n ≡ apply s t = ap (apply (single x (apply s t))) (ap s same ∙ rounds_none b enough x free) ∙ single_at x x (apply s t) refl in
            let right : apply after t ≡ apply s t = sym (apply_apply s (single x (apply s t)) t) ∙ apply_single_absent x (apply s t) (apply s t) absent in
            left ∙ sym right ∙ ap (apply after) target
        | inr other ↦
            ap (apply (single x (apply s t))) (rounds_bound b enough n u (settled n) (sym (elsewhere n other) ∙ is)) ∙ apply_apply s (single x (apply s t)) u
      ]

  pub rounds_also : rounds (bound_also b x t) (then_rounds enough (suc enough)) ≡ compose (rounds b enough) (single x (apply (rounds b enough) t))
  unfolding after
  rounds_also = λ i. λ n. rounds_only more after after_free after_bound (then_rounds enough (suc enough)) n (settled_also n) i
