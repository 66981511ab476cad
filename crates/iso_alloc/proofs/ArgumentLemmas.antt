-- Which argument of a head a variable is.
use Rattle.std.proofs.Common.{◌≡◌, ℕ, ◌+◌, ◌==◌, ◌<◌, ◌≤◌, Bool, true, false, Option, Some, None, refl, sym, ap, ◌∙◌, arith, inl, inr}
use Rattle.std.proofs.lemmas.Bool.{false≢true, cases_Bool, eqb-true}
use Rattle.iso_model.specs.Terms.Trees.{Tree, Variable, Integer, Name, Apply, End, More, count}
use Rattle.iso_alloc.specs.Plans.{argument_from}

some_same : (a b : ℕ) → Some a ≡ Some b → a ≡ b
some_same a b e = ap got e
  where
    got : Option ℕ → ℕ
    got (Some n) = n
    got None = a

none_some : (b : ℕ) → None ≡ Some b → ⊥
none_some b e = false≢true (ap is e)
  where
    is : Option ℕ → Bool
    is (Some n) = true
    is None = false

further : (i k : ℕ) (ts : Tree) → (i + 1 ≤ k) × (k < (i + 1) + count ts) → (i ≤ k) × (k < i + (count ts + 1))
further i k ts h = let a = h.0 in let b = h.1 in (omega (arith, a), omega (arith, b))

-- the argument is one of them
pub argument_within : (i x k : ℕ) (ts : Tree) → argument_from i x ts ≡ Some k → (i ≤ k) × (k < i + count ts)
argument_within i x k (More (Variable y) ts) h = elim (cases_Bool (y == x)) [
  | inl same ↦ (let e : i ≡ k = some_same i k (sym (rw same refl) ∙ h) in (omega (arith, e), omega (arith, e)))
  | inr other ↦ further i k ts (argument_within (i + 1) x k ts (sym (rw other refl) ∙ h))
]
argument_within i x k (More (Integer z) ts) h = further i k ts (argument_within (i + 1) x k ts h)
argument_within i x k (More (Name a) ts) h = further i k ts (argument_within (i + 1) x k ts h)
argument_within i x k (More (Apply f us) ts) h = further i k ts (argument_within (i + 1) x k ts h)
argument_within i x k (More End ts) h = further i k ts (argument_within (i + 1) x k ts h)
argument_within i x k (More (More u us) ts) h = further i k ts (argument_within (i + 1) x k ts h)
argument_within i x k (Variable y) h = absurd (none_some k h)
argument_within i x k (Integer z) h = absurd (none_some k h)
argument_within i x k (Name a) h = absurd (none_some k h)
argument_within i x k (Apply f us) h = absurd (none_some k h)
argument_within i x k End h = absurd (none_some k h)

-- two variables are not one argument
pub same_argument : (i x y k : ℕ) (ts : Tree) → argument_from i x ts ≡ Some k → argument_from i y ts ≡ Some k → x ≡ y
same_argument i x y k (More (Variable v) ts) h g = elim (cases_Bool (v == x)) [
  | inl first ↦ elim (cases_Bool (v == y)) [
    | inl second ↦ sym (eqb-true v x first) ∙ eqb-true v y second
    | inr other ↦ (let e : i ≡ k = some_same i k (sym (rw first refl) ∙ h) in
        let later = (argument_within (i + 1) y k ts (sym (rw other refl) ∙ g)).0 in absurd (omega (arith, e, later)))
  ]
  | inr unlike ↦ elim (cases_Bool (v == y)) [
    | inl second ↦ (let e : i ≡ k = some_same i k (sym (rw second refl) ∙ g) in
        let later = (argument_within (i + 1) x k ts (sym (rw unlike refl) ∙ h)).0 in absurd (omega (arith, e, later)))
    | inr other ↦ same_argument (i + 1) x y k ts (sym (rw unlike refl) ∙ h) (sym (rw other refl) ∙ g)
  ]
]
same_argument i x y k (More (Integer z) ts) h g = same_argument (i + 1) x y k ts h g
same_argument i x y k (More (Name a) ts) h g = same_argument (i + 1) x y k ts h g
same_argument i x y k (More (Apply f us) ts) h g = same_argument (i + 1) x y k ts h g
same_argument i x y k (More End ts) h g = same_argument (i + 1) x y k ts h g
same_argument i x y k (More (More u us) ts) h g = same_argument (i + 1) x y k ts h g
same_argument i x y k (Variable v) h g = absurd (none_some k h)
same_argument i x y k (Integer z) h g = absurd (none_some k h)
same_argument i x y k (Name a) h g = absurd (none_some k h)
same_argument i x y k (Apply f us) h g = absurd (none_some k h)
same_argument i x y k End h g = absurd (none_some k h)
