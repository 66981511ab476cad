-- How substitutions act on terms: one after another, on the variables that occur, and on how heavy a term is.
use Rattle.std.proofs.Common.{◌≡◌, ◌≢◌, ℕ, ◌+◌, ◌≤◌, true, false, inl, inr, refl, sym, ap, ap₂, ◌∙◌, subst, arith}
use Rattle.std.proofs.lemmas.Bool.{eq-eqb, eqb-true, ne_eqb, or_cases, or_left, or_right, cases_eq, false≢true}
use Rattle.iso_model.specs.Terms.Trees.{Tree, Variable, Integer, Name, Apply, End, More}
use Rattle.iso_model.specs.Terms.Variables.{occurs}
use Rattle.iso_model.specs.Terms.Substitutions.{Subst, apply, compose, single}

-- one substitution after another is their composition
pub apply_apply : (s t : Subst) (u : Tree) → apply t (apply s u) ≡ apply (compose s t) u
apply_apply s t (Variable n) = refl
apply_apply s t (Integer z) = refl
apply_apply s t (Name a) = refl
apply_apply s t (Apply f ts) = ap (Apply f) (apply_apply s t ts)
apply_apply s t End = refl
apply_apply s t (More u us) = ap₂ More (apply_apply s t u) (apply_apply s t us)

-- substitutions that agree on the variables of a term make the same of it
pub apply_same : (s t : Subst) (u : Tree) → ((x : ℕ) → occurs x u ≡ true → s x ≡ t x) → apply s u ≡ apply t u
apply_same s t (Variable n) h = h n (eq-eqb n n refl)
apply_same s t (Integer z) h = refl
apply_same s t (Name a) h = refl
apply_same s t (Apply f ts) h = ap (Apply f) (apply_same s t ts h)
apply_same s t End h = refl
apply_same s t (More u us) h =
    ap₂ More (apply_same s t u (λ x o. h x (or_left (occurs x u) (occurs x us) o))) (apply_same s t us (λ x o. h x (or_right (occurs x u) (occurs x us) o)))

-- and the other way round
pub same_at : (s t : Subst) (u : Tree) → apply s u ≡ apply t u → (x : ℕ) → occurs x u ≡ true → s x ≡ t x
same_at s t (Variable n) e x o = subst (λ k. s k ≡ t k) (eqb-true n x o) e
same_at s t (Integer z) e x o = cc
same_at s t (Name a) e x o = cc
same_at s t (Apply f ts) e x o = let inner : apply s ts ≡ apply t ts = cc in same_at s t ts inner x o
same_at s t End e x o = cc
same_at s t (More u us) e x o =
    let first : apply s u ≡ apply t u = cc in
    let others : apply s us ≡ apply t us = cc in
    elim (or_cases (occurs x u) (occurs x us) o) [ inl here ↦ same_at s t u first x here | inr there ↦ same_at s t us others x there ]

-- the substitution that binds nothing
pub apply_none : (u : Tree) → apply Variable u ≡ u
apply_none (Variable n) = refl
apply_none (Integer z) = refl
apply_none (Name a) = refl
apply_none (Apply f ts) = ap (Apply f) (apply_none ts)
apply_none End = refl
apply_none (More u us) = ap₂ More (apply_none u) (apply_none us)

-- a substitution leaves a term alone where it leaves the term's variables alone
pub apply_alone : (s : Subst) (u : Tree) → ((x : ℕ) → occurs x u ≡ true → s x ≡ Variable x) → apply s u ≡ u
apply_alone s u h = apply_same s Variable u h ∙ apply_none u

pub alone_at : (s : Subst) (u : Tree) → apply s u ≡ u → (x : ℕ) → occurs x u ≡ true → s x ≡ Variable x
alone_at s u e x o = same_at s Variable u (e ∙ sym (apply_none u)) x o

-- a substitution that absorbs s makes the same of a term and of its image under s
pub apply_absorbs : (s t : Subst) (u : Tree) → ((n : ℕ) → apply t (s n) ≡ t n) → apply t (apply s u) ≡ apply t u
apply_absorbs s t u h = apply_apply s t u ∙ apply_same (compose s t) t u (λ x o. h x)

-- a variable of an image stands in the value of a variable of the term
pub occurs_from : (s : Subst) (u : Tree) (y : ℕ) → occurs y (apply s u) ≡ true → (x : ℕ) × (occurs x u ≡ true) × (occurs y (s x) ≡ true)
occurs_from s (Variable n) y o = (n, eq-eqb n n refl, o)
occurs_from s (Integer z) y o = cc
occurs_from s (Name a) y o = cc
occurs_from s (Apply f ts) y o = occurs_from s ts y o
occurs_from s End y o = cc
occurs_from s (More u us) y o =
    elim (or_cases (occurs y (apply s u)) (occurs y (apply s us)) o) [
      | inl here ↦ (let f = occurs_from s u y here in (f.0, or_left (occurs f.0 u) (occurs f.0 us) f.1, f.2))
      | inr there ↦ (let f = occurs_from s us y there in (f.0, or_right (occurs f.0 u) (occurs f.0 us) f.1, f.2))
    ]

pub occurs_in : (s : Subst) (u : Tree) (x y : ℕ) → occurs x u ≡ true → occurs y (s x) ≡ true → occurs y (apply s u) ≡ true
occurs_in s (Variable n) x y o h = subst (λ k. occurs y (s k) ≡ true) (sym (eqb-true n x o)) h
occurs_in s (Integer z) x y o h = cc
occurs_in s (Name a) x y o h = cc
occurs_in s (Apply f ts) x y o h = occurs_in s ts x y o h
occurs_in s End x y o h = cc
occurs_in s (More u us) x y o h =
    elim (or_cases (occurs x u) (occurs x us) o) [
      | inl here ↦ or_left (occurs y (apply s u)) (occurs y (apply s us)) (occurs_in s u x y here h)
      | inr there ↦ or_right (occurs y (apply s u)) (occurs y (apply s us)) (occurs_in s us x y there h)
    ]

-- binding one variable
pub single_at : (x n : ℕ) (r : Tree) → n ≡ x → single x r n ≡ r
single_at x n r e = rw (eq-eqb n x e) refl

pub single_other : (x n : ℕ) (r : Tree) → n ≢ x → single x r n ≡ Variable n
single_other x n r d = rw (ne_eqb n x d) refl

-- a substitution under which x has the value of r absorbs the binding of x to r
pub single_absorbed : (x : ℕ) (r : Tree) (t : Subst) → t x ≡ apply t r → (n : ℕ) → apply t (single x r n) ≡ t n
single_absorbed x r t e n =
    elim (cases_eq n x) [ inl s ↦ ap (apply t) (single_at x n r s) ∙ sym e ∙ ap t (sym s) | inr d ↦ ap (apply t) (single_other x n r d) ]

-- a term without x is its own image
pub apply_single_absent : (x : ℕ) (r u : Tree) → occurs x u ≡ false → apply (single x r) u ≡ u
apply_single_absent x r u h =
    apply_alone (single x r) u (λ y o. single_other x y r (λ e. false≢true (sym h ∙ subst (λ k. occurs k u ≡ true) e o)))

-- How heavy a term is: how many nodes it has as a tree.
abbrev pub weight : Tree → ℕ
weight (Variable n) = 1
weight (Integer z) = 1
weight (Name a) = 1
weight (Apply f ts) = weight ts + 1
weight End = 1
weight (More t ts) = weight t + weight ts + 1

-- the image of a term weighs at least what the value of a variable in it weighs
pub weight_within : (s : Subst) (u : Tree) (x : ℕ) → occurs x u ≡ true → weight (s x) ≤ weight (apply s u)
weight_within s (Variable n) x o = let e = eqb-true n x o in subst (λ k. weight (s x) ≤ weight (s k)) (sym e) (omega arith)
weight_within s (Integer z) x o = cc
weight_within s (Name a) x o = cc
weight_within s (Apply f ts) x o = let inner = weight_within s ts x o in omega arith
weight_within s End x o = cc
weight_within s (More u us) x o =
    elim (or_cases (occurs x u) (occurs x us) o) [
      | inl here ↦ (let inner = weight_within s u x here in omega arith)
      | inr there ↦ (let inner = weight_within s us x there in omega arith)
    ]

-- and more, unless the term is that variable
pub never_inside : (s : Subst) (x : ℕ) (u : Tree) → occurs x u ≡ true → u ≢ Variable x → s x ≢ apply s u
never_inside s x (Variable n) o d e = absurd (d (ap Variable (eqb-true n x o)))
never_inside s x (Integer z) o d e = cc
never_inside s x (Name a) o d e = cc
never_inside s x (Apply f ts) o d e = let inner = weight_within s ts x o in let w = ap weight e in absurd (omega arith)
never_inside s x End o d e = cc
never_inside s x (More u us) o d e =
    let w = ap weight e in
    elim (or_cases (occurs x u) (occurs x us) o) [
      | inl here ↦ (let inner = weight_within s u x here in absurd (omega arith))
      | inr there ↦ (let inner = weight_within s us x there in absurd (omega arith))
    ]
