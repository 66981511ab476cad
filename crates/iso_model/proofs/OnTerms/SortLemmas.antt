-- Substitutions keep terms and lists of terms, and so do unifiers.
use Rattle.std.proofs.Common.{IfSome, false, List, sym, not, ◌==◌, ◌≡◌, ℕ, ◌+◌, true, ◌&&◌, nat_le, ◌⊎◌, inl, inr, refl, ap, ◌∙◌}
use Rattle.std.proofs.lemmas.Bool.{and_parts, and_from, or_left, or_right, eq-eqb, false≢true, cases_eq, not_from_true, not-true, both_ways}
use Rattle.std.proofs.lemmas.Bool.Decides.{Decides-int_eq}
use Rattle.std.proofs.lemmas.Slice.Eq.{bytes_eq-Decides}
use Rattle.std.specs.Ordering.{int_eq}
use Rattle.std.specs.Str.{bytes_eq}
use Rattle.iso_model.specs.Terms.Trees.{Tree, Variable, Integer, Name, Apply, End, More, count, arities_fit}
use Rattle.iso_model.specs.Terms.Sorts.{is_term, is_row}
use Rattle.iso_model.specs.Terms.Variables.{occurs, variables}
use Rattle.iso_model.specs.Terms.Copies.{place_of, copy_from}
use Rattle.iso_model.specs.Terms.Clashes.{clash}
use Rattle.iso_model.specs.Terms.Unification.{unify_under}
use Rattle.iso_model.proofs.OnTerms.UnifierLemmas.{kept}
use Rattle.iso_model.specs.Terms.Substitutions.{Subst, apply, single}
use Rattle.iso_model.specs.Terms.Unifiers.{Unifier, NeverEqual}
use Rattle.iso_model.specs.Terms.Unification.Applied.{single_at, single_other}
use Rattle.iso_model.proofs.OnTerms.UniqueUnifiers.{unifier_unique}
use Rattle.iso_model.specs.Terms.Unification.Exists.{Answer, Solved, already, bound, swapped, inside, in_turn, solved_unifier, exists_or_not}

-- a list of terms keeps its length
pub count-apply : (s : Subst) (ts : Tree) → is_row ts ≡ true → count (apply s ts) ≡ count ts
count-apply s (Variable n) h = absurd (false≢true h)
count-apply s (Integer z) h = refl
count-apply s (Name a) h = refl
count-apply s (Apply f ts) h = refl
count-apply s End h = refl
count-apply s (More t ts) h = ap (λ n. n + 1) (count-apply s ts ((and_parts (is_term t) (is_row ts) h).1))

mutual
  pub term_applied : (s : Subst) (t : Tree) → is_term t ≡ true → ((n : ℕ) → occurs n t ≡ true → is_term (s n) ≡ true) → is_term (apply s t) ≡ true
  term_applied s (Variable n) h values = values n (eq-eqb n n refl)
  term_applied s (Integer z) h values = refl
  term_applied s (Name a) h values = refl
  term_applied s (Apply f ts) h values =
      let some_args = and_parts (nat_le 1 (count ts)) (nat_le (count ts) 255 && is_row ts) h in
      let most_args = and_parts (nat_le (count ts) 255) (is_row ts) some_args.1 in
      let same = count-apply s ts most_args.1 in
      let inner = row_applied s ts most_args.1 values in
      and_from (nat_le 1 (count (apply s ts))) (nat_le (count (apply s ts)) 255 && is_row (apply s ts))
      (ap (nat_le 1) same ∙ some_args.0)
      (and_from (nat_le (count (apply s ts)) 255) (is_row (apply s ts)) (ap (λ n. nat_le n 255) same ∙ most_args.0) inner)
  term_applied s End h values = h
  term_applied s (More t ts) h values = h

  pub row_applied : (s : Subst) (ts : Tree) → is_row ts ≡ true → ((n : ℕ) → occurs n ts ≡ true → is_term (s n) ≡ true) → is_row (apply s ts) ≡ true
  row_applied s (Variable n) h values = absurd (false≢true h)
  row_applied s (Integer z) h values = h
  row_applied s (Name a) h values = h
  row_applied s (Apply f ts) h values = h
  row_applied s End h values = refl
  row_applied s (More t ts) h values =
      let parts = and_parts (is_term t) (is_row ts) h in
      and_from (is_term (apply s t)) (is_row (apply s ts))
      (term_applied s t parts.0 (λ n o. values n (or_left (occurs n t) (occurs n ts) o)))
      (row_applied s ts parts.1 (λ n o. values n (or_right (occurs n t) (occurs n ts) o)))

-- binding a variable to a term keeps terms
single_term : (x : ℕ) (r : Tree) → is_term r ≡ true → (n : ℕ) → is_term (single x r n) ≡ true
single_term x r h n =
    elim (cases_eq n x) [
      | inl same ↦ ap is_term (single_at x n r same) ∙ h
      | inr other ↦ ap is_term (single_other x n r other)
    ]

-- two terms, or two lists of terms
abbrev AreAlike : Tree → Tree → Type 0
AreAlike a b = ((is_term a ≡ true) × (is_term b ≡ true)) ⊎ ((is_row a ≡ true) × (is_row b ≡ true))

solved_gives : {a b : Tree} {s : Subst} → Solved a b s → AreAlike a b → (n : ℕ) → is_term (s n) ≡ true
solved_gives (already a) h n = refl
solved_gives (bound x r absent old) (inl h) n = single_term x r h.1 n
solved_gives (bound x r absent old) (inr h) n = absurd (false≢true h.0)
solved_gives (swapped k) (inl h) n = solved_gives k (inl (h.1, h.0)) n
solved_gives (swapped k) (inr h) n = solved_gives k (inr (h.1, h.0)) n
solved_gives (inside {a} {b} f k) (inl h) n =
    let left = and_parts (nat_le (count a) 255) (is_row a) ((and_parts (nat_le 1 (count a)) (nat_le (count a) 255 && is_row a) h.0).1) in
    let right = and_parts (nat_le (count b) 255) (is_row b) ((and_parts (nat_le 1 (count b)) (nat_le (count b) 255 && is_row b) h.1).1) in
    solved_gives k (inr (left.1, right.1)) n
solved_gives (inside f k) (inr h) n = absurd (false≢true h.0)
solved_gives (in_turn k l) (inl h) n = absurd (false≢true h.0)
solved_gives (in_turn {a} {b} {c} {d} {s} {t} k l) (inr h) n =
    let left = and_parts (is_term a) (is_row c) h.0 in
    let right = and_parts (is_term b) (is_row d) h.1 in
    let first = solved_gives k (inl (left.0, right.0)) in
    let others = solved_gives l (inr (row_applied s c left.1 (λ m o. first m), row_applied s d right.1 (λ m o. first m))) in
    term_applied t (s n) (first n) (λ m o. others m)

found_gives : (a b : Tree) (s : Subst) → Unifier a b s → Answer a b → AreAlike a b → (n : ℕ) → is_term (s n) ≡ true
found_gives a b s h (inl found) alike n =
    ap (λ u. is_term (u n)) (unifier_unique a b s found.0 h (solved_unifier found.1)) ∙ solved_gives found.1 alike n
found_gives a b s h (inr never) alike n = absurd (never s h.equal)

pub unifier_gives_terms : {a b : Tree} {s : Subst} → Unifier a b s → is_term a ≡ true → is_term b ≡ true → (n : ℕ) → is_term (s n) ≡ true
unifier_gives_terms {a} {b} {s} h left right = found_gives a b s h (exists_or_not a b) (inl (left, right))

pub unifier_of_rows : {a b : Tree} {s : Subst} → Unifier a b s → is_row a ≡ true → is_row b ≡ true → (n : ℕ) → is_term (s n) ≡ true
unifier_of_rows {a} {b} {s} h left right = found_gives a b s h (exists_or_not a b) (inr (left, right))

pub copy_is_term : (t : Tree) (n : ℕ) → is_term t ≡ true → is_term (copy_from t n) ≡ true
copy_is_term t n h = term_applied (λ x. Variable (n + place_of x (variables t))) t h (λ x o. refl)

pub row_of_arguments : (f : List ℕ) (ts : Tree) → is_term (Apply f ts) ≡ true → is_row ts ≡ true
row_of_arguments f ts h =
    (and_parts (nat_le (count ts) 255) (is_row ts) (and_parts (nat_le 1 (count ts)) (nat_le (count ts) 255 && is_row ts) h).1).1

same_tops : (f g : List ℕ) (m n : ℕ) → f ≡ g → m ≡ n → not (bytes_eq f g && m == n) ≡ false
same_tops f g m n e d = not_from_true (bytes_eq f g && m == n) (and_from (bytes_eq f g) (m == n) ((bytes_eq-Decides f g).1 e) (eq-eqb m n d))

pub clash_never : (a b : Tree) → is_term a ≡ true → is_term b ≡ true → clash a b ≡ true → NeverEqual a b
clash_never (Variable n) u p q h t e = absurd (false≢true h)
clash_never a (Variable n) p q h t e = absurd (false≢true h)
clash_never (Integer y) (Integer z) p q h t e =
    let same : y ≡ z = cc in
    both_ways (int_eq y z) (not-true (int_eq y z) h) ((Decides-int_eq y z).1 same)
clash_never (Name a) (Name b) p q h t e =
    let same : a ≡ b = cc in
    both_ways (bytes_eq a b) (not-true (bytes_eq a b) h) ((bytes_eq-Decides a b).1 same)
clash_never (Apply f ts) (Apply g us) p q h t e =
    let same : f ≡ g = cc in
    let inner : apply t ts ≡ apply t us = cc in
    let long = sym (count-apply t ts (row_of_arguments f ts p)) ∙ ap count inner ∙ count-apply t us (row_of_arguments g us q) in
    false≢true (sym (same_tops f g (count ts) (count us) same long) ∙ h)
clash_never End End p q h t e = absurd (false≢true h)
clash_never (More a c) (More b d) p q h t e = absurd (false≢true h)
clash_never _ _ p q h t e = cc

pub unifying_gives_terms : (r : Subst) (a b : Tree) → is_term a ≡ true → is_term b ≡ true → ((n : ℕ) → is_term (r n) ≡ true) → IfSome (unify_under r a b) (λ u. (n : ℕ) → is_term (u n) ≡ true)
unifying_gives_terms r a b left right given =
    kept r a b (λ u. (n : ℕ) → is_term (u n) ≡ true) (λ s h n.
    (let found = unifier_gives_terms h (term_applied r a left (λ m o. given m)) (term_applied r b right (λ m o. given m)) in
    term_applied s (r n) (given n) (λ m o. found m)))

mutual
  -- each compound in a term has 1 to 255 arguments
  pub term_fits : (t : Tree) → is_term t ≡ true → arities_fit t ≡ true
  term_fits (Variable n) h = refl
  term_fits (Integer z) h = refl
  term_fits (Name a) h = refl
  term_fits (Apply f ts) h =
      let low = and_parts (nat_le 1 (count ts)) (nat_le (count ts) 255 && is_row ts) h in
      let high = and_parts (nat_le (count ts) 255) (is_row ts) low.1 in
      and_from (nat_le 1 (count ts)) (nat_le (count ts) 255 && arities_fit ts) low.0
      (and_from (nat_le (count ts) 255) (arities_fit ts) high.0 (row_fits ts high.1))
  term_fits End h = refl
  term_fits (More t ts) h = absurd (false≢true h)

  pub row_fits : (ts : Tree) → is_row ts ≡ true → arities_fit ts ≡ true
  row_fits (Variable n) h = refl
  row_fits (Integer z) h = refl
  row_fits (Name a) h = refl
  row_fits (Apply f ts) h = absurd (false≢true h)
  row_fits End h = refl
  row_fits (More t ts) h =
      let parts = and_parts (is_term t) (is_row ts) h in
      and_from (arities_fit t) (arities_fit ts) (term_fits t parts.0) (row_fits ts parts.1)
