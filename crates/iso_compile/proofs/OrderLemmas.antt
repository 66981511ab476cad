-- Numbers of variables by first occurrence.
use Rattle.std.proofs.Common.{◌≡◌, ◌⊎◌, ◌<◌, ◌+◌, ◌==◌, ℕ, Bool, true, false, Option, Some, None, option_and_then, inl, inr, refl, sym, ap, ◌∙◌, arith, nat_lt}
use Rattle.std.proofs.lemmas.Bool.{false≢true, cases_Bool, cases_eq, eq-eqb, eqb-true, or_left, or_right}
use Rattle.iso_model.specs.Terms.Trees.{Tree, Variable, Integer, Name, Apply, End, More}
use Rattle.iso_model.specs.Terms.Variables.{occurs}
use Rattle.iso_model.specs.Terms.Numbering.{next_number}
use Rattle.iso_compile.specs.Orders.{AllBetween}

some_same : (a b : ℕ) → Some a ≡ Some b → a ≡ b
some_same a b e = ap got e
  where
    got : Option ℕ → ℕ
    got (Some n) = n
    got None = a

none_some : (b : ℕ) → None ≡ Some b → ⊥
none_some b e = false≢true (ap is e)
  where
    is : Option ℕ → Bool
    is (Some n) = true
    is None = false

joined : (t ts : Tree) (k j x : ℕ) → x < j → (o : Option ℕ) → option_and_then (next_number ts) o ≡ Some j
    → ((i : ℕ) → o ≡ Some i → x < i → (x < k) ⊎ (occurs x t ≡ true)) → ((i : ℕ) → next_number ts i ≡ Some j → (x < i) ⊎ (occurs x ts ≡ true))
    → o ≡ o → (x < k) ⊎ (occurs x (More t ts) ≡ true)
joined t ts k j x low None h first rest e = absurd (none_some j h)
joined t ts k j x low (Some i) h first rest e = elim (rest i h) [
  | inl before ↦ elim (first i refl before) [
    | inl old ↦ inl old
    | inr here ↦ inr (or_left (occurs x t) (occurs x ts) here)
  ]
  | inr there ↦ inr (or_right (occurs x t) (occurs x ts) there)
]

-- the variables of numbers below the next one behind a term are those below the next one before it, and those of the
-- term
pub all_between : (t : Tree) (k j : ℕ) → next_number t k ≡ Some j → AllBetween k j t
all_between (Variable v) k j h x low = elim (cases_Bool (nat_lt v k)) [
  | inl old ↦ inl (let same : k ≡ j = some_same k j (sym (rw old refl) ∙ h) in omega (arith, low, same))
  | inr other ↦ elim (cases_Bool (v == k)) [
    | inl new ↦ (let same : k + 1 ≡ j = some_same (k + 1) j (sym (rw (other, new) refl) ∙ h) in
        let is = eqb-true v k new in
        elim (cases_eq x k) [
          | inl e ↦ inr (eq-eqb v x (is ∙ sym e))
          | inr e ↦ inl (omega (arith, low, same, e))
        ])
    | inr none ↦ absurd (none_some j (sym (rw (other, none) refl) ∙ h))
  ]
]
all_between (Integer z) k j h x low = inl (let same = some_same k j h in omega (arith, low, same))
all_between (Name a) k j h x low = inl (let same = some_same k j h in omega (arith, low, same))
all_between (Apply f ts) k j h x low = all_between ts k j h x low
all_between End k j h x low = inl (let same = some_same k j h in omega (arith, low, same))
all_between (More t ts) k j h x low = joined t ts k j x low (next_number t k) h (λ i e. all_between t k i e x) (λ i e. all_between ts i j e x low) refl
