-- Two terms have a unifier or are never equal, and the unifier comes by these steps.
use Rattle.std.proofs.Common.{◌≡◌, ◌≢◌, ℕ, zero, suc, ◌+◌, ◌≤◌, ◌<◌, true, false, ℤ, List, [], ◌∷◌, ◌==◌, length, ◌⊎◌, inl, inr, refl, sym, ap, ◌∙◌, subst, subst₂, arith}
use Rattle.std.proofs.lemmas.Bool.{cases_Bool, cases_order, cases_eq, false≢true, or_left, or_right, eqb-true, eq-eqb, ne_eqb, or_cases}
use Rattle.std.proofs.lemmas.Slice.Eq.{bytes_eq-Decides}
use Rattle.std.proofs.Math.IntN.{ℤ_discrete}
use Rattle.std.specs.Str.{bytes_eq}
use Rattle.iso_model.specs.Terms.Trees.{Tree, Variable, Integer, Name, Apply, End, More}
use Rattle.iso_model.specs.Terms.Variables.{occurs, is_in, variables}
use Rattle.iso_model.specs.Terms.Substitutions.{Subst, apply, compose, single}
use Rattle.iso_model.specs.Terms.Unifiers.{Unifier, NeverEqual}
use Rattle.iso_model.specs.Terms.Unification.Applied.{apply_alone, occurs_from}
use Rattle.iso_model.specs.Terms.Unification.Composed.{unifier_same, unifier_sym, unifier_apply, unifier_bound, unifier_more, never_sym, never_apply, never_first, never_rest, never_occurs}
use Rattle.iso_model.specs.Terms.Unification.Bindings.{unifier_brings, unifier_fixes}
use Rattle.iso_model.specs.Terms.Unification.Listed.{Covers, distinct_covers, without, length-without, is_in-without}

-- a substitution with the steps by which it unifies two terms
pub data Solved : Tree → Tree → Subst → Type 0 where
  already : (a : Tree) → Solved a a Variable
  bound : (x : ℕ) (r : Tree) → occurs x r ≡ false → ((m : ℕ) → r ≡ Variable m → m ≤ x) → Solved (Variable x) r (single x r)
  swapped : {a b : Tree} {s : Subst} → Solved a b s → Solved b a s
  inside : {a b : Tree} {s : Subst} (f : List ℕ) → Solved a b s → Solved (Apply f a) (Apply f b) s
  in_turn : {a b c d : Tree} {s t : Subst} → Solved a b s → Solved (apply s c) (apply s d) t → Solved (More a c) (More b d) (compose s t)

pub solved_unifier : {a b : Tree} {s : Subst} → Solved a b s → Unifier a b s
solved_unifier (already a) = unifier_same a
solved_unifier (bound x r absent old) = unifier_bound x r absent old
solved_unifier (swapped h) = unifier_sym (solved_unifier h)
solved_unifier (inside f h) = unifier_apply f (solved_unifier h)
solved_unifier (in_turn h k) = unifier_more (solved_unifier h) (solved_unifier k)

-- how a search for a unifier ends
abbrev pub Answer : Tree → Tree → Type 0
Answer a b = ((s : Subst) × Solved a b s) ⊎ NeverEqual a b

answer_swapped : (a b : Tree) → Answer a b → Answer b a
answer_swapped a b (inl h) = inl (h.0, swapped h.1)
answer_swapped a b (inr never) = inr (never_sym a b never)

same_names : (f g : List ℕ) → (f ≡ g) ⊎ (f ≢ g)
same_names f g =
    elim (cases_Bool (bytes_eq f g)) [
      | inl e ↦ inl ((bytes_eq-Decides f g).0 e)
      | inr e ↦ inr (λ h. false≢true (sym e ∙ (bytes_eq-Decides f g).1 h))
    ]

same_integers : (y z : ℤ) → (y ≡ z) ⊎ (y ≢ z)
same_integers y z = elim (ℤ_discrete y z) [ yes e ↦ inl e | no d ↦ inr d ]

-- a variable and what is no variable
with_term : (x : ℕ) (r : Tree) → ((m : ℕ) → r ≢ Variable m) → Answer (Variable x) r
with_term x r other =
    elim (cases_Bool (occurs x r)) [
      | inl deep ↦ inr (never_occurs x r deep (other x))
      | inr absent ↦ inl (single x r, bound x r absent (λ m e. absurd (other m e)))
    ]

-- two variables: the younger is bound to the older
with_variable : (x y : ℕ) → Answer (Variable x) (Variable y)
with_variable x y =
    elim (cases_order x y) [
      | inl e ↦ inl (Variable, subst (λ k. Solved (Variable x) (Variable k) Variable) e (already (Variable x)))
      | inr (inl less) ↦ inl (single y (Variable x), swapped (bound y (Variable x) (ne_eqb x y (λ e. absurd (omega arith))) (λ m e. (let k : x ≡ m = cc in omega arith))))
      | inr (inr more) ↦ inl (single x (Variable y), bound x (Variable y) (ne_eqb y x (λ e. absurd (omega arith))) (λ m e. (let k : y ≡ m = cc in omega arith)))
    ]

with_any : (x : ℕ) (r : Tree) → Answer (Variable x) r
with_any x (Variable y) = with_variable x y
with_any x (Integer z) = with_term x (Integer z) (λ m e. cc)
with_any x (Name a) = with_term x (Name a) (λ m e. cc)
with_any x (Apply f ts) = with_term x (Apply f ts) (λ m e. cc)
with_any x End = with_term x End (λ m e. cc)
with_any x (More t ts) = with_term x (More t ts) (λ m e. cc)

-- a substitution leaves all listed variables alone, or binds one of them
pub alone_or_not : (s : Subst) (x : ℕ) (r : Tree) → s x ≡ r → (s x ≡ Variable x) ⊎ (s x ≢ Variable x)
alone_or_not s x (Variable y) e = elim (cases_eq y x) [ inl same ↦ inl (e ∙ ap Variable same) | inr other ↦ inr (λ h. other (let k : y ≡ x = cc in k)) ]
alone_or_not s x (Integer z) e = inr (λ h. cc)
alone_or_not s x (Name a) e = inr (λ h. cc)
alone_or_not s x (Apply f ts) e = inr (λ h. cc)
alone_or_not s x End e = inr (λ h. cc)
alone_or_not s x (More t ts) e = inr (λ h. cc)

pub binds_or_not : (s : Subst) (vs : List ℕ) → ((x : ℕ) → is_in x vs ≡ true → s x ≡ Variable x) ⊎ ((x : ℕ) × (is_in x vs ≡ true) × (s x ≢ Variable x))
binds_or_not s [] = inl (λ x h. absurd (false≢true h))
binds_or_not s (v ∷ vs) =
    elim (alone_or_not s v (s v) refl) [
      | inr binds ↦ inr (v, or_left (v == v) (is_in v vs) (eq-eqb v v refl), binds)
      | inl alone ↦ elim (binds_or_not s vs) [
        | inr there ↦ inr (there.0, or_right (v == there.0) (is_in there.0 vs) there.1, there.2)
        | inl others ↦ inl (λ x h. elim (or_cases (v == x) (is_in x vs) h) [
          | inl here ↦ subst (λ k. s k ≡ Variable k) (eqb-true v x here) alone
          | inr below ↦ others x below
        ])
      ]
    ]

-- under a unifier that binds x, the terms over a list of variables are over the list without x
pub shrunk_covers : {a b : Tree} {s : Subst} → Unifier a b s → (vs : List ℕ) → Covers vs a → Covers vs b → (x : ℕ) → s x ≢ Variable x → (c : Tree) → Covers vs c → Covers (without x vs) (apply s c)
shrunk_covers {a} {b} {s} h vs in_a in_b x binds c in_c y o =
    let f = occurs_from s c y o in
    let alone = unifier_fixes h f.0 y f.2 in
    let differ : y ≢ x = λ e. binds (subst (λ k. s k ≡ Variable k) e alone) in
    let listed : is_in y vs ≡ true =
    elim (cases_Bool (occurs y a)) [
      | inl here ↦ in_a y here
      | inr no_a ↦ elim (cases_Bool (occurs y b)) [
        | inl here ↦ in_b y here
        | inr no_b ↦ subst (λ k. is_in k vs ≡ true) (unifier_brings h y f.0 no_a no_b f.2) (in_c f.0 f.1)
      ]
    ] in
    is_in-without x y vs listed differ

then_rest : (a b c d : Tree) (s : Subst) → Solved a b s → Answer (apply s c) (apply s d) → Answer (More a c) (More b d)
then_rest a b c d s h (inl k) = inl (compose s k.0, in_turn h k.1)
then_rest a b c d s h (inr never) = inr (never_rest c d (solved_unifier h) never)

within : (f g : List ℕ) (a b : Tree) → f ≡ g → Answer a b → Answer (Apply f a) (Apply g b)
within f g a b e (inl h) = inl (h.0, subst (λ k. Solved (Apply f a) (Apply k b) h.0) e (inside f h.1))
within f g a b e (inr never) = inr (never_apply a b f g never)

-- the list of variables gets shorter, or the terms get smaller
module _ (vs : List ℕ) (fewer : (ws : List ℕ) → length ws < length vs → (a b : Tree) → Covers ws a → Covers ws b → Answer a b) where
  in_order : (a b c d : Tree) → Covers vs (More a c) → Covers vs (More b d) → Answer a b → Answer c d → Answer (More a c) (More b d)
  in_order a b c d left right (inr never) others = inr (never_first a b c d never)
  in_order a b c d left right (inl h) others =
      let s = h.0 in
      let in_a : Covers vs a = λ x o. left x (or_left (occurs x a) (occurs x c) o) in
      let in_c : Covers vs c = λ x o. left x (or_right (occurs x a) (occurs x c) o) in
      let in_b : Covers vs b = λ x o. right x (or_left (occurs x b) (occurs x d) o) in
      let in_d : Covers vs d = λ x o. right x (or_right (occurs x b) (occurs x d) o) in
      let rest : Answer (apply s c) (apply s d) =
      elim (binds_or_not s vs) [
        | inl alone ↦ subst₂ Answer
            (sym (apply_alone s c (λ x o. alone x (in_c x o))))
            (sym (apply_alone s d (λ x o. alone x (in_d x o))))
            others
        | inr binds ↦ (let u = solved_unifier h.1 in
            fewer (without binds.0 vs) (length-without binds.0 vs binds.1) (apply s c) (apply s d)
            (shrunk_covers u vs in_a in_b binds.0 binds.2 c in_c)
            (shrunk_covers u vs in_a in_b binds.0 binds.2 d in_d))
      ] in
      then_rest a b c d s h.1 rest

  solve : (a b : Tree) → Covers vs a → Covers vs b → Answer a b
  solve (Variable x) b left right = with_any x b
  solve a (Variable y) left right = answer_swapped (Variable y) a (with_any y a)
  solve (Integer y) (Integer z) left right =
      elim (same_integers y z) [
        | inl e ↦ inl (Variable, subst (λ k. Solved (Integer y) (Integer k) Variable) e (already (Integer y)))
        | inr d ↦ inr (λ t e. d (let k : y ≡ z = cc in k))
      ]
  solve (Name f) (Name g) left right =
      elim (same_names f g) [
        | inl e ↦ inl (Variable, subst (λ k. Solved (Name f) (Name k) Variable) e (already (Name f)))
        | inr d ↦ inr (λ t e. d (let k : f ≡ g = cc in k))
      ]
  solve (Apply f a) (Apply g b) left right =
      elim (same_names f g) [
        | inl e ↦ within f g a b e (solve a b left right)
        | inr d ↦ inr (λ t e. d (let k : f ≡ g = cc in k))
      ]
  solve End End left right = inl (Variable, already End)
  solve (More a c) (More b d) left right =
      in_order a b c d left right
      (solve a b (λ x o. left x (or_left (occurs x a) (occurs x c) o)) (λ x o. right x (or_left (occurs x b) (occurs x d) o)))
      (solve c d (λ x o. left x (or_right (occurs x a) (occurs x c) o)) (λ x o. right x (or_right (occurs x b) (occurs x d) o)))
  solve _ _ left right = inr (λ t e. cc)

solve_within : (k : ℕ) (vs : List ℕ) → length vs < k → (a b : Tree) → Covers vs a → Covers vs b → Answer a b
solve_within zero vs short = absurd (omega arith)
solve_within (suc k) vs short = solve vs (λ ws less. solve_within k ws (omega arith))

pub exists_or_not : (a b : Tree) → Answer a b
exists_or_not a b =
    let vs = variables (More a b) in
    let covers = distinct_covers [] (More a b) in
    solve_within (length vs + 1) vs (omega arith) a b
    (λ x o. covers x (or_left (occurs x a) (occurs x b) o))
    (λ x o. covers x (or_right (occurs x a) (occurs x b) o))
