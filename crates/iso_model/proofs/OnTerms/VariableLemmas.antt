-- The list of a term's variables, and the variables of images.
use Rattle.std.proofs.Common.{◌≡◌, ℕ, ◌==◌, true, false, List, [], ◌∷◌, ◌++◌, ◌⊎◌, inl, inr, sym, ◌∙◌, ◌↔◌}
use Rattle.std.proofs.lemmas.Bool.{cases_Bool, eq-eqb, ne_eqb, or_cases, or_left, or_right, or_parts, false≢true, true≢false}
use Rattle.std.specs.List.{IsDistinct, AllByRecursion}
use Rattle.std.specs.Cmp.{both_ways}
use Rattle.iso_model.specs.Terms.Trees.{Tree, Variable, Integer, Name, Apply, End, More}
use Rattle.iso_model.specs.Terms.Variables.{occurs, is_in, distinct_from, variables}
use Rattle.iso_model.specs.Terms.Substitutions.{Subst, apply}
use Rattle.iso_model.specs.Terms.Unification.Applied.{apply_same, same_at, occurs_from, occurs_in}
use Rattle.iso_model.specs.Terms.Unification.Listed.{distinct_covers}
use Rattle.iso_model.proofs.OnTerms.CopyLemmas.{AllDistinct, distinct_from_distinct}

in_push : (x n : ℕ) (vs : List ℕ) → is_in x (vs ++ n ∷ []) ≡ true → (is_in x vs ≡ true) ⊎ (n == x ≡ true)
in_push x n [] h = elim (or_cases (n == x) false h) [ inl here ↦ inr here | inr there ↦ absurd (false≢true there) ]
in_push x n (v ∷ vs) h =
    elim (or_cases (v == x) (is_in x (vs ++ n ∷ [])) h) [
      | inl here ↦ inl (or_left (v == x) (is_in x vs) here)
      | inr there ↦ elim (in_push x n vs there) [ inl old ↦ inl (or_right (v == x) (is_in x vs) old) | inr new ↦ inr new ]
    ]

-- a listed variable was seen or occurs in the term
pub listed_from : (seen : List ℕ) (t : Tree) (x : ℕ) → is_in x (distinct_from seen t) ≡ true → (is_in x seen ≡ true) ⊎ (occurs x t ≡ true)
listed_from seen (Variable n) x h =
    elim (cases_Bool (is_in n seen)) [
      | inl old ↦ (let there : is_in x seen ≡ true = rw old at h in inl there)
      | inr new ↦ (let there : is_in x (seen ++ n ∷ []) ≡ true = rw new at h in in_push x n seen there)
    ]
listed_from seen (Integer z) x h = inl h
listed_from seen (Name a) x h = inl h
listed_from seen (Apply f ts) x h = listed_from seen ts x h
listed_from seen End x h = inl h
listed_from seen (More t ts) x h =
    elim (listed_from (distinct_from seen t) ts x h) [
      | inr there ↦ inr (or_right (occurs x t) (occurs x ts) there)
      | inl before ↦ elim (listed_from seen t x before) [ inl old ↦ inl old | inr here ↦ inr (or_left (occurs x t) (occurs x ts) here) ]
    ]

pub listed_occurring : (t : Tree) (x : ℕ) → is_in x (variables t) ≡ occurs x t
listed_occurring t x =
    both_ways (is_in x (variables t)) (occurs x t)
    (λ h. elim (listed_from [] t x h) [ inl seen ↦ absurd (false≢true seen) | inr here ↦ here ])
    (distinct_covers [] t x)

others_differ : (v : ℕ) (vs : List ℕ) → is_in v vs ≡ false → AllByRecursion (λ y. (v == y) ≡ false) vs
others_differ v [] h = tt
others_differ v (w ∷ vs) h =
    let parts = or_parts (w == v) (is_in v vs) h in
    (ne_eqb v w (λ e. true≢false (sym (eq-eqb w v (sym e)) ∙ parts.0)), others_differ v vs parts.1)

distinct_all : (vs : List ℕ) → AllDistinct vs → IsDistinct ◌==◌ vs
unfolding IsDistinct
distinct_all [] d = tt
distinct_all (v ∷ vs) d = (others_differ v vs d.0, distinct_all vs d.1)

pub listed_once : (t : Tree) → IsDistinct ◌==◌ (variables t)
listed_once t = distinct_all (variables t) (distinct_from_distinct [] t tt)

pub images_agree : (s t : Subst) (u : Tree) → (apply s u ≡ apply t u) ↔ ((x : ℕ) → occurs x u ≡ true → s x ≡ t x)
images_agree s t u = (same_at s t u, apply_same s t u)

pub variables_of_image : (s : Subst) (u : Tree) (y : ℕ) → (occurs y (apply s u) ≡ true) ↔ ((x : ℕ) × (occurs x u ≡ true) × (occurs y (s x) ≡ true))
variables_of_image s u y = (occurs_from s u y, λ h. occurs_in s u h.0 y h.1 h.2)
