-- Goals behind each `V^`, and their free variables.
use Rattle.std.proofs.Common.{◌≡◌, ℕ, ◌+◌, List, [], ◌∷◌, ◌++◌, Bool, true, false, not, ◌||◌, ◌==◌, Some, is_some, position, map, drop, codes, refl, sym, ap, ◌∙◌, inl, inr, if◌then◌else◌}
use Rattle.std.specs.List.{filter, list_any, position_from}
use Rattle.std.proofs.lemmas.Iterator.Adapters.{position_from-zero}
use Rattle.std.specs.Cmp.{both_ways}
use Rattle.std.proofs.lemmas.Bool.{cases_Bool, or_cases, or_left, or_right, false≢true}
use Rattle.std.proofs.lemmas.List.{append_assoc}
use Rattle.iso_model.specs.Terms.Trees.{Tree, Variable, Integer, Name, Apply, End, More}
use Rattle.iso_model.specs.Terms.Variables.{occurs, is_in, distinct_from, variables}
use Rattle.iso_model.specs.Terms.Unification.Listed.{distinct_covers, distinct_keeps}
use Rattle.iso_model.proofs.OnTerms.VariableLemmas.{listed_from}
use Rattle.iso_model.specs.Search.Groups.{stripped, bound_terms, is_bound, free_variables}
use Rattle.iso_lib_core.specs.Lists.{is_pair_named}
use Rattle.iso_lib_core.specs.Stripping.{is_free, with_variable}

-- a goal that is no `V^G` has no such left side
pub none_bound : (t : Tree) → is_pair_named (codes "^") t ≡ false → bound_terms t ≡ End
none_bound (Apply f (More v (More g End))) other = rw other refl
none_bound (Variable n) other = refl
none_bound (Integer z) other = refl
none_bound (Name a) other = refl
none_bound End other = refl
none_bound (More t ts) other = refl
none_bound (Apply f End) other = refl
none_bound (Apply f (Variable n)) other = refl
none_bound (Apply f (Integer z)) other = refl
none_bound (Apply f (Name a)) other = refl
none_bound (Apply f (Apply g ts)) other = refl
none_bound (Apply f (More a End)) other = refl
none_bound (Apply f (More a (Variable n))) other = refl
none_bound (Apply f (More a (Integer z))) other = refl
none_bound (Apply f (More a (Name b))) other = refl
none_bound (Apply f (More a (Apply g ts))) other = refl
none_bound (Apply f (More a (More b (Variable n)))) other = refl
none_bound (Apply f (More a (More b (Integer z)))) other = refl
none_bound (Apply f (More a (More b (Name c)))) other = refl
none_bound (Apply f (More a (More b (Apply g ts)))) other = refl
none_bound (Apply f (More a (More b (More c ts)))) other = refl

some_from : (p : ℕ → Bool) (n : ℕ) (vs : List ℕ) → is_some (position_from p n vs) ≡ list_any p vs
some_from p n [] = refl
some_from p n (v ∷ vs) = elim (p v) as (λ b. is_some (if b then Some n else position_from p (n + 1) vs) ≡ (b || list_any p vs)) [
  | true ↦ refl
  | false ↦ some_from p (n + 1) vs
]

-- a list has a place for what it has
pub some_placed : (x : ℕ) (vs : List ℕ) → is_some (position (λ m. m == x) vs) ≡ is_in x vs
some_placed x vs = ap is_some (position_from-zero (λ m. m == x) vs) ∙ some_from (λ m. m == x) 0 vs

-- the variables of a term come to those that there were
pub distinct_has : (seen : List ℕ) (t : Tree) (x : ℕ) → is_in x (distinct_from seen t) ≡ (is_in x seen || occurs x t)
distinct_has seen t x =
    both_ways (is_in x (distinct_from seen t)) (is_in x seen || occurs x t)
    (λ h. elim (listed_from seen t x h) [ inl old ↦ or_left (is_in x seen) (occurs x t) old | inr here ↦ or_right (is_in x seen) (occurs x t) here ])
    (λ h. elim (or_cases (is_in x seen) (occurs x t) h) [ inl old ↦ distinct_keeps seen t x old | inr here ↦ distinct_covers seen t x here ])

-- tests that say the same leave the same
filtered_same : (p q : ℕ → Bool) (vs : List ℕ) → ((x : ℕ) → p x ≡ q x) → filter p vs ≡ filter q vs
filtered_same p q [] same = refl
filtered_same p q (v ∷ vs) same = rw (same v, filtered_same p q vs same) refl

-- the variables that are not bound, where those of the template and of each left side are
pub free_are : (template goal : Tree) (bound : List ℕ) → bound ≡ distinct_from (distinct_from [] template) (bound_terms goal)
    → filter (λ x. not (is_in x bound)) (variables (stripped goal)) ≡ free_variables template goal
free_are template goal bound are =
    filtered_same (λ x. not (is_in x bound)) (λ x. not (is_bound template goal x)) (variables (stripped goal))
    (λ x. ap not (ap (is_in x) are ∙ distinct_has (distinct_from [] template) (bound_terms goal) x ∙ ap (λ b. b || occurs x (bound_terms goal)) (distinct_has [] template x)))

filter_one : {X : Type 0} (p : X → Bool) (v : X) (vs : List X) → filter p (v ∷ vs) ≡ filter p (v ∷ []) ++ filter p vs
filter_one p v vs = elim (p v) as (λ b. (if b then v ∷ filter p vs else filter p vs) ≡ (if b then v ∷ [] else []) ++ filter p vs) [ true ↦ refl | false ↦ refl ]

-- one term more was filtered
pub filtered_more : {X : Type 0} (p : X → Bool) (before after ts : List X) (k : ℕ) (t : X) → after ≡ before ++ filter p (t ∷ []) → drop k ts ≡ t ∷ drop (k + 1) ts
    → before ++ filter p (drop k ts) ≡ filter p ts → after ++ filter p (drop (k + 1) ts) ≡ filter p ts
filtered_more p before after ts k t grown next so_far =
    ap (λ us. us ++ filter p (drop (k + 1) ts)) grown ∙ append_assoc before (filter p (t ∷ [])) (filter p (drop (k + 1) ts))
    ∙ ap (λ us. before ++ us) (sym (filter_one p t (drop (k + 1) ts)) ∙ ap (filter p) (sym next)) ∙ so_far

-- those of variables that are free
pub free_variables_of : (bound vs : List ℕ) → filter (is_free bound) (map Variable vs) ≡ map Variable (filter (λ x. not (is_in x bound)) vs)
free_variables_of bound [] = refl
free_variables_of bound (v ∷ vs) =
    let others = free_variables_of bound vs in
    elim (not (is_in v bound)) as (λ b. (if b then Variable v ∷ filter (is_free bound) (map Variable vs) else filter (is_free bound) (map Variable vs))
    ≡ map Variable (if b then v ∷ filter (λ x. not (is_in x bound)) vs else filter (λ x. not (is_in x bound)) vs)) [
      | true ↦ ap (λ ts. Variable v ∷ ts) others
      | false ↦ others
    ]

-- those seen, and then the variables among the terms, one after another
abbrev pub with_variables : List ℕ → List Tree → List ℕ
with_variables seen [] = seen
with_variables seen (t ∷ ts) = with_variables (with_variable seen t) ts

variables_keep : (seen vs : List ℕ) (x : ℕ) → is_in x seen ≡ true → is_in x (with_variables seen (map Variable vs)) ≡ true
variables_keep seen [] x h = h
variables_keep seen (v ∷ vs) x h = variables_keep (distinct_from seen (Variable v)) vs x (distinct_keeps seen (Variable v) x h)

variables_cover : (seen vs : List ℕ) (x : ℕ) → is_in x vs ≡ true → is_in x (with_variables seen (map Variable vs)) ≡ true
variables_cover seen [] x h = absurd (false≢true h)
variables_cover seen (v ∷ vs) x h =
    elim (or_cases (v == x) (is_in x vs) h) [
      | inl here ↦ variables_keep (distinct_from seen (Variable v)) vs x (distinct_covers seen (Variable v) x here)
      | inr later ↦ variables_cover (distinct_from seen (Variable v)) vs x later
    ]

variables_push : (seen vs : List ℕ) (n : ℕ)
    → with_variables seen (map Variable (vs ++ n ∷ [])) ≡ distinct_from (with_variables seen (map Variable vs)) (Variable n)
variables_push seen [] n = refl
variables_push seen (v ∷ vs) n = variables_push (distinct_from seen (Variable v)) vs n

-- a variable that was added adds nothing again
variable_again : (seen vs : List ℕ) (n : ℕ) → is_in n vs ≡ true
    → with_variables seen (map Variable vs) ≡ distinct_from (with_variables seen (map Variable vs)) (Variable n)
variable_again seen vs n old = rw (variables_cover seen vs n old) refl

variables_come : (seen vs : List ℕ) (t : Tree)
    → with_variables seen (map Variable (distinct_from vs t)) ≡ distinct_from (with_variables seen (map Variable vs)) t
variables_come seen vs (Variable n) =
    elim (cases_Bool (is_in n vs)) [
      | inl old ↦ ap (λ b. with_variables seen (map Variable (if b then vs else vs ++ n ∷ []))) old ∙ variable_again seen vs n old
      | inr new ↦ ap (λ b. with_variables seen (map Variable (if b then vs else vs ++ n ∷ []))) new ∙ variables_push seen vs n
    ]
variables_come seen vs (Integer z) = refl
variables_come seen vs (Name a) = refl
variables_come seen vs (Apply f ts) = variables_come seen vs ts
variables_come seen vs End = refl
variables_come seen vs (More t ts) =
    variables_come seen (distinct_from vs t) ts ∙ ap (λ us. distinct_from us ts) (variables_come seen vs t)

-- the variables of a term, one after another, add what the term does
pub variables_added : (seen : List ℕ) (t : Tree) → with_variables seen (map Variable (variables t)) ≡ distinct_from seen t
variables_added seen t = variables_come seen [] t

-- one term more was gone through
pub variables_more : (ts : List Tree) (k : ℕ) (t : Tree) (seen : List ℕ) → drop k ts ≡ t ∷ drop (k + 1) ts
    → with_variables (with_variable seen t) (drop (k + 1) ts) ≡ with_variables seen (drop k ts)
variables_more ts k t seen next = ap (with_variables seen) (sym next)
