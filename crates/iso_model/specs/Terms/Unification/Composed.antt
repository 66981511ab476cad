-- How the unifiers of terms come from those of their parts, and which terms are never equal.
use Rattle.std.proofs.Common.{◌≡◌, ◌≢◌, ℕ, ◌≤◌, true, false, List, inl, inr, refl, sym, ap, ap₂, ◌∙◌, arith}
use Rattle.iso_model.specs.Terms.Trees.{Tree, Variable, Integer, Name, Apply, End, More}
use Rattle.iso_model.specs.Terms.Variables.{occurs}
use Rattle.iso_model.specs.Terms.Substitutions.{Subst, apply, compose, single}
use Rattle.iso_model.specs.Terms.Unifiers.{Unifier, NeverEqual}
use Rattle.iso_model.specs.Terms.Unification.Applied.{apply_apply, apply_absorbs, apply_single_absent, single_at, single_other, single_absorbed, never_inside}
use Rattle.std.proofs.lemmas.Bool.{cases_eq}

-- a term whose image is a variable is one
pub variable_from : (t : Subst) (u : Tree) (m : ℕ) → apply t u ≡ Variable m → (k : ℕ) × (u ≡ Variable k)
variable_from t (Variable n) m e = (n, refl)
variable_from t (Integer z) m e = cc
variable_from t (Name a) m e = cc
variable_from t (Apply f ts) m e = cc
variable_from t End m e = cc
variable_from t (More u us) m e = cc

-- a unifier is idempotent
pub unifier_twice : {a b : Tree} {s : Subst} → Unifier a b s → (n : ℕ) → apply s (s n) ≡ s n
unifier_twice {s = s} h n = h.most_general s h.equal n

pub unifier_same : (a : Tree) → Unifier a a Variable
unifier_same a = record {
  equal = refl;
  most_general = λ t e n. refl;
  least = λ n m e. let same : n ≡ m = cc in omega arith;
}

pub unifier_sym : {a b : Tree} {s : Subst} → Unifier a b s → Unifier b a s
unifier_sym h = record { equal = sym h.equal; most_general = λ t e. h.most_general t (sym e); least = h.least }

pub unifier_apply : {a b : Tree} {s : Subst} (f : List ℕ) → Unifier a b s → Unifier (Apply f a) (Apply f b) s
unifier_apply {a} {b} f h = record {
  equal = ap (Apply f) h.equal;
  most_general = λ t e. (let inner : apply t a ≡ apply t b = cc in h.most_general t inner);
  least = h.least;
}

-- a variable is bound to a term without it, and to no younger variable
pub unifier_bound : (x : ℕ) (r : Tree) → occurs x r ≡ false → ((m : ℕ) → r ≡ Variable m → m ≤ x) → Unifier (Variable x) r (single x r)
unifier_bound x r absent old = record {
  equal = single_at x x r refl ∙ sym (apply_single_absent x r r absent);
  most_general = λ t e. single_absorbed x r t e;
  least = λ n m e. elim (cases_eq n x) [
    | inl same ↦ (let is : r ≡ Variable m = sym (single_at x n r same) ∙ e in let below = old m is in omega arith)
    | inr other ↦ (let is : Variable n ≡ Variable m = sym (single_other x n r other) ∙ e in let same : n ≡ m = cc in omega arith)
  ];
}

-- first the first members, and then the other members under their unifier
pub unifier_more : {a b c d : Tree} {s t : Subst} → Unifier a b s → Unifier (apply s c) (apply s d) t → Unifier (More a c) (More b d) (compose s t)
unifier_more {a} {b} {c} {d} {s} {t} h k = record {
  equal = ap₂ More
      (sym (apply_apply s t a) ∙ ap (apply t) h.equal ∙ apply_apply s t b)
      (sym (apply_apply s t c) ∙ k.equal ∙ apply_apply s t d);
  most_general = λ r e n.
      (let first : apply r a ≡ apply r b = cc in
      let others : apply r c ≡ apply r d = cc in
      let absorbs = h.most_general r first in
      let rest = k.most_general r (apply_absorbs s r c absorbs ∙ others ∙ sym (apply_absorbs s r d absorbs)) in
      apply_absorbs t r (s n) rest ∙ absorbs n);
  least = λ n m e.
      (let v = variable_from t (s n) m e in
      let low = h.least n v.0 v.1 in
      let lower = k.least v.0 m (sym (ap (apply t) v.1) ∙ e) in
      omega arith);
}

pub never_sym : (a b : Tree) → NeverEqual a b → NeverEqual b a
never_sym a b h t e = h t (sym e)

pub never_apply : (a b : Tree) (f g : List ℕ) → NeverEqual a b → NeverEqual (Apply f a) (Apply g b)
never_apply a b f g h t e = let inner : apply t a ≡ apply t b = cc in h t inner

pub never_first : (a b c d : Tree) → NeverEqual a b → NeverEqual (More a c) (More b d)
never_first a b c d h t e = let first : apply t a ≡ apply t b = cc in h t first

pub never_rest : {a b : Tree} {s : Subst} (c d : Tree) → Unifier a b s → NeverEqual (apply s c) (apply s d) → NeverEqual (More a c) (More b d)
never_rest {a} {b} {s} c d u h t e =
    let first : apply t a ≡ apply t b = cc in
    let others : apply t c ≡ apply t d = cc in
    let absorbs = u.most_general t first in
    h t (apply_absorbs s t c absorbs ∙ others ∙ sym (apply_absorbs s t d absorbs))

-- a variable is never equal to a term in which it stands deeper
pub never_occurs : (x : ℕ) (u : Tree) → occurs x u ≡ true → u ≢ Variable x → NeverEqual (Variable x) u
never_occurs x u o d t e = never_inside t x u o d e
