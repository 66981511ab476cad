-- Lists of variables that a term's variables are among.
use Rattle.std.proofs.Common.{◌≡◌, ◌≢◌, ℕ, ◌<◌, ◌==◌, true, false, List, [], ◌∷◌, ◌++◌, length, inl, inr, refl, sym, ◌∙◌, subst, cond, arith, if◌then◌else◌}
use Rattle.std.proofs.lemmas.Bool.{eq-eqb, eqb-true, ne_eqb, or_cases, or_left, or_right, cases_Bool, false≢true}
use Rattle.iso_model.specs.Terms.Trees.{Tree, Variable, Integer, Name, Apply, End, More}
use Rattle.iso_model.specs.Terms.Variables.{occurs, is_in, distinct_from}

-- all variables of the term are in the list
abbrev pub Covers : List ℕ → Tree → Type 0
Covers vs t = (x : ℕ) → occurs x t ≡ true → is_in x vs ≡ true

pub is_in-append : (x : ℕ) (vs ws : List ℕ) → is_in x vs ≡ true → is_in x (vs ++ ws) ≡ true
is_in-append x [] ws h = absurd (false≢true h)
is_in-append x (v ∷ vs) ws h =
    elim (or_cases (v == x) (is_in x vs) h) [
      | inl here ↦ or_left (v == x) (is_in x (vs ++ ws)) here
      | inr there ↦ or_right (v == x) (is_in x (vs ++ ws)) (is_in-append x vs ws there)
    ]

pub is_in-last : (x : ℕ) (vs : List ℕ) → is_in x (vs ++ x ∷ []) ≡ true
is_in-last x [] = or_left (x == x) false (eq-eqb x x refl)
is_in-last x (v ∷ vs) = or_right (v == x) (is_in x (vs ++ x ∷ [])) (is_in-last x vs)

-- those seen stay in the list
pub distinct_keeps : (seen : List ℕ) (t : Tree) (x : ℕ) → is_in x seen ≡ true → is_in x (distinct_from seen t) ≡ true
distinct_keeps seen (Variable n) x h =
    elim (is_in n seen) as (λ b. is_in x (cond b seen (seen ++ n ∷ [])) ≡ true) [ true ↦ h | false ↦ is_in-append x seen (n ∷ []) h ]
distinct_keeps seen (Integer z) x h = h
distinct_keeps seen (Name a) x h = h
distinct_keeps seen (Apply f ts) x h = distinct_keeps seen ts x h
distinct_keeps seen End x h = h
distinct_keeps seen (More t ts) x h = distinct_keeps (distinct_from seen t) ts x (distinct_keeps seen t x h)

-- and those of the term come in
pub distinct_covers : (seen : List ℕ) (t : Tree) → Covers (distinct_from seen t) t
distinct_covers seen (Variable n) x o =
    let e = eqb-true n x o in
    elim (cases_Bool (is_in n seen)) [
      | inl old ↦ rw old (subst (λ k. is_in k seen ≡ true) e old)
      | inr new ↦ rw new (subst (λ k. is_in k (seen ++ n ∷ []) ≡ true) e (is_in-last n seen))
    ]
distinct_covers seen (Integer z) x o = absurd (false≢true o)
distinct_covers seen (Name a) x o = absurd (false≢true o)
distinct_covers seen (Apply f ts) x o = distinct_covers seen ts x o
distinct_covers seen End x o = absurd (false≢true o)
distinct_covers seen (More t ts) x o =
    elim (or_cases (occurs x t) (occurs x ts) o) [
      | inl here ↦ distinct_keeps (distinct_from seen t) ts x (distinct_covers seen t x here)
      | inr there ↦ distinct_covers (distinct_from seen t) ts x there
    ]

-- the list without the first x in it
pub without : ℕ → List ℕ → List ℕ
without x [] = []
without x (v ∷ vs) = if v == x then vs else v ∷ without x vs

pub length-without : (x : ℕ) (vs : List ℕ) → is_in x vs ≡ true → length (without x vs) < length vs
unfolding without
length-without x [] h = absurd (false≢true h)
length-without x (v ∷ vs) h =
    elim (cases_Bool (v == x)) [
      | inl here ↦ rw here (omega arith)
      | inr other ↦ (let there : is_in x vs ≡ true = rw other at h in
          let shorter = length-without x vs there in
          rw other (omega arith))
    ]

pub is_in-without : (x y : ℕ) (vs : List ℕ) → is_in y vs ≡ true → y ≢ x → is_in y (without x vs) ≡ true
unfolding without
is_in-without x y [] h d = absurd (false≢true h)
is_in-without x y (v ∷ vs) h d =
    elim (or_cases (v == y) (is_in y vs) h) [
      | inl here ↦ (let e = eqb-true v y here in
          rw (ne_eqb v x (λ s. d (sym e ∙ s))) (or_left (v == y) (is_in y (without x vs)) here))
      | inr there ↦ elim (cases_Bool (v == x)) [
        | inl gone ↦ rw gone there
        | inr stays ↦ rw stays (or_right (v == y) (is_in y (without x vs)) (is_in-without x y vs there d))
      ]
    ]
