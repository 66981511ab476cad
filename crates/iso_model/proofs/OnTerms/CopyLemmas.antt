-- Renaming the variables of a term, and copies.
use Rattle.std.proofs.Common.{◌≡◌, ◌≢◌, ℕ, zero, suc, ◌+◌, ◌-◌, ◌≤◌, ◌<◌, ◌==◌, true, false, ◌||◌, List, [], ◌∷◌, ◌++◌, map, length, slice_index, inl, inr, refl, sym, ap, ap₂, ◌∙◌, subst, arith}
use Rattle.std.proofs.lemmas.Bool.{cases_eq, cases_Bool, eq-eqb, ne_eqb, eqb-true, or_cases, or_left, or_right, or_from, or_parts, false≢true, true≢false}
use Rattle.iso_model.specs.Terms.Trees.{Tree, Variable, Integer, Name, Apply, End, More}
use Rattle.iso_model.specs.Terms.Sizes.{size}
use Rattle.iso_model.specs.Terms.Variables.{occurs, is_in, distinct_from, variables, variable_count}
use Rattle.iso_model.specs.Terms.Substitutions.{Subst, apply, compose}
use Rattle.iso_model.specs.Terms.Copies.{place_of, copy_from, renamed, numbers_from, IsNumbered}
use Rattle.iso_model.specs.Terms.Unification.Applied.{apply_apply, apply_same, apply_alone, occurs_in}
use Rattle.iso_model.specs.Terms.Unification.Listed.{distinct_keeps, distinct_covers}

-- ---- lists of variables

-- no variable of the list stands in it twice
abbrev pub AllDistinct : List ℕ → Type 0
AllDistinct [] = Unit {0}
AllDistinct (v ∷ vs) = (is_in v vs ≡ false) × AllDistinct vs

absent_push : (x n : ℕ) (vs : List ℕ) → is_in x vs ≡ false → x ≢ n → is_in x (vs ++ n ∷ []) ≡ false
absent_push x n [] h d = or_from (n == x) false (ne_eqb n x (λ e. d (sym e))) refl
absent_push x n (v ∷ vs) h d =
    let parts = or_parts (v == x) (is_in x vs) h in
    or_from (v == x) (is_in x (vs ++ n ∷ [])) parts.0 (absent_push x n vs parts.1 d)

distinct_push : (n : ℕ) (vs : List ℕ) → AllDistinct vs → is_in n vs ≡ false → AllDistinct (vs ++ n ∷ [])
distinct_push n [] d h = (refl, tt)
distinct_push n (v ∷ vs) d h =
    let parts = or_parts (v == n) (is_in n vs) h in
    (absent_push v n vs d.0 (λ e. true≢false (sym (eq-eqb v n e) ∙ parts.0)), distinct_push n vs d.1 parts.1)

pub distinct_from_distinct : (seen : List ℕ) (t : Tree) → AllDistinct seen → AllDistinct (distinct_from seen t)
distinct_from_distinct seen (Variable n) d =
    elim (cases_Bool (is_in n seen)) [
      | inl old ↦ rw old d
      | inr new ↦ rw new (distinct_push n seen d new)
    ]
distinct_from_distinct seen (Integer z) d = d
distinct_from_distinct seen (Name a) d = d
distinct_from_distinct seen (Apply f ts) d = distinct_from_distinct seen ts d
distinct_from_distinct seen End d = d
distinct_from_distinct seen (More t ts) d = distinct_from_distinct (distinct_from seen t) ts (distinct_from_distinct seen t d)

pub map_same : (f g : ℕ → ℕ) (vs : List ℕ) → ((x : ℕ) → is_in x vs ≡ true → f x ≡ g x) → map f vs ≡ map g vs
map_same f g [] h = refl
map_same f g (v ∷ vs) h =
    ap₂ ◌∷◌ (h v (or_left (v == v) (is_in v vs) (eq-eqb v v refl))) (map_same f g vs (λ x o. h x (or_right (v == x) (is_in x vs) o)))

map-push : (f : ℕ → ℕ) (vs : List ℕ) (n : ℕ) → map f (vs ++ n ∷ []) ≡ map f vs ++ f n ∷ []
map-push f [] n = refl
map-push f (v ∷ vs) n = ap (λ ws. f v ∷ ws) (map-push f vs n)

-- f tells x from each other variable of the list
abbrev Tells : (ℕ → ℕ) → List ℕ → ℕ → Type 0
Tells f vs n = (x : ℕ) → is_in x vs ≡ true → f x ≡ f n → x ≡ n

same_test : (f : ℕ → ℕ) (v n : ℕ) → (f v ≡ f n → v ≡ n) → (f v == f n) ≡ (v == n)
same_test f v n h =
    elim (cases_eq v n) [
      | inl e ↦ eq-eqb (f v) (f n) (ap f e) ∙ sym (eq-eqb v n e)
      | inr d ↦ ne_eqb (f v) (f n) (λ e. d (h e)) ∙ sym (ne_eqb v n d)
    ]

is_in-map : (f : ℕ → ℕ) (n : ℕ) (vs : List ℕ) → Tells f vs n → is_in (f n) (map f vs) ≡ is_in n vs
is_in-map f n [] h = refl
is_in-map f n (v ∷ vs) h =
    ap₂ ◌||◌ (same_test f v n (h v (or_left (v == v) (is_in v vs) (eq-eqb v v refl)))) (is_in-map f n vs (λ x o. h x (or_right (v == x) (is_in x vs) o)))

-- ---- renaming by a function that tells the variables of a term apart

pub distinct_from-renamed : (f : ℕ → ℕ) (seen : List ℕ) (t : Tree) → ((x y : ℕ) → is_in x (distinct_from seen t) ≡ true → is_in y (distinct_from seen t) ≡ true → f x ≡ f y → x ≡ y)
    → distinct_from (map f seen) (apply (λ x. Variable (f x)) t) ≡ map f (distinct_from seen t)
distinct_from-renamed f seen (Variable n) h =
    let here = distinct_covers seen (Variable n) n (eq-eqb n n refl) in
    let same = is_in-map f n seen (λ x o. h x n (distinct_keeps seen (Variable n) x o) here) in
    elim (cases_Bool (is_in n seen)) [
      | inl old ↦ rw (same, old)
      | inr new ↦ rw (same, new) (sym (map-push f seen n))
    ]
distinct_from-renamed f seen (Integer z) h = refl
distinct_from-renamed f seen (Name a) h = refl
distinct_from-renamed f seen (Apply g ts) h = distinct_from-renamed f seen ts h
distinct_from-renamed f seen End h = refl
distinct_from-renamed f seen (More t ts) h =
    let keeps = distinct_keeps (distinct_from seen t) ts in
    ap (λ vs. distinct_from vs (apply (λ x. Variable (f x)) ts)) (distinct_from-renamed f seen t (λ x y p q. h x y (keeps x p) (keeps y q)))
    ∙ distinct_from-renamed f (distinct_from seen t) ts h

pub variables-renamed : (f : ℕ → ℕ) (t : Tree) → ((x y : ℕ) → is_in x (variables t) ≡ true → is_in y (variables t) ≡ true → f x ≡ f y → x ≡ y)
    → variables (apply (λ x. Variable (f x)) t) ≡ map f (variables t)
variables-renamed f t h = distinct_from-renamed f [] t h

length-map : (f : ℕ → ℕ) (vs : List ℕ) → length (map f vs) ≡ length vs
length-map f [] = refl
length-map f (v ∷ vs) = ap suc (length-map f vs)

pub size-renamed : (f : ℕ → ℕ) (t : Tree) → size (apply (λ x. Variable (f x)) t) ≡ size t
size-renamed f (Variable n) = refl
size-renamed f (Integer z) = refl
size-renamed f (Name a) = refl
size-renamed f (Apply g ts) = ap (λ n. 2 + n) (size-renamed f ts)
size-renamed f End = refl
size-renamed f (More t ts) = ap₂ ◌+◌ (size-renamed f t) (size-renamed f ts)

-- ---- places

place-first : (v x : ℕ) (vs : List ℕ) → v ≡ x → place_of x (v ∷ vs) ≡ 0
place-first v x vs e = rw (eq-eqb v x e) refl

place-later : (v x : ℕ) (vs : List ℕ) → v ≢ x → place_of x (v ∷ vs) ≡ 1 + place_of x vs
place-later v x vs d = rw (ne_eqb v x d) refl

pub place_tells : (vs : List ℕ) (x y : ℕ) → is_in x vs ≡ true → place_of x vs ≡ place_of y vs → x ≡ y
place_tells [] x y h e = absurd (false≢true h)
place_tells (v ∷ vs) x y h e =
    elim (cases_eq v x) [
      | inl a ↦ elim (cases_eq v y) [
        | inl b ↦ sym a ∙ b
        | inr b ↦ (let p = place-first v x vs a in let q = place-later v y vs b in absurd (omega arith))
      ]
      | inr a ↦ elim (cases_eq v y) [
        | inl b ↦ (let p = place-later v x vs a in let q = place-first v y vs b in absurd (omega arith))
        | inr b ↦ (let p = place-later v x vs a in
            let q = place-later v y vs b in
            let there : is_in x vs ≡ true = rw (ne_eqb v x a) at h in
            place_tells vs x y there (omega arith))
      ]
    ]

pub places : (n : ℕ) (vs : List ℕ) → AllDistinct vs → map (λ x. n + place_of x vs) vs ≡ numbers_from n (length vs)
places n [] d = refl
places n (v ∷ vs) d =
    let p = place-first v v vs refl in
    let head : n + place_of v (v ∷ vs) ≡ n = omega arith in
    let others = map_same (λ x. n + place_of x (v ∷ vs)) (λ x. n + 1 + place_of x vs) vs (λ x o.
    (let q = place-later v x vs (λ e. false≢true (sym d.0 ∙ subst (λ k. is_in k vs ≡ true) (sym e) o)) in omega arith)) in
    ap₂ ◌∷◌ head (others ∙ places (n + 1) vs d.1)

pub length-numbers_from : (n k : ℕ) → length (numbers_from n k) ≡ k
length-numbers_from n zero = refl
length-numbers_from n (suc k) = ap suc (length-numbers_from (n + 1) k)

pub in_numbers_from : (n k x : ℕ) → is_in x (numbers_from n k) ≡ true → (n ≤ x) × (x < n + k)
in_numbers_from n zero x h = absurd (false≢true h)
in_numbers_from n (suc k) x h =
    elim (or_cases (n == x) (is_in x (numbers_from (n + 1) k)) h) [
      | inl here ↦ (let e = eqb-true n x here in omega arith)
      | inr there ↦ (let below = in_numbers_from (n + 1) k x there in omega arith)
    ]

pub place_in_numbers : (n k x : ℕ) → is_in x (numbers_from n k) ≡ true → n + place_of x (numbers_from n k) ≡ x
place_in_numbers n zero x h = absurd (false≢true h)
place_in_numbers n (suc k) x h =
    elim (cases_eq n x) [
      | inl e ↦ (let p = place-first n x (numbers_from (n + 1) k) e in omega arith)
      | inr d ↦ (let there : is_in x (numbers_from (n + 1) k) ≡ true = rw (ne_eqb n x d) at h in
          let q = place-later n x (numbers_from (n + 1) k) d in
          let below = place_in_numbers (n + 1) k x there in
          omega arith)
    ]

pub read_at_place : (vs : List ℕ) (x : ℕ) → is_in x vs ≡ true → slice_index vs (place_of x vs) ≡ x
read_at_place [] x h = absurd (false≢true h)
read_at_place (v ∷ vs) x h =
    elim (cases_eq v x) [
      | inl e ↦ ap (slice_index (v ∷ vs)) (place-first v x vs e) ∙ e
      | inr d ↦ (let there : is_in x vs ≡ true = rw (ne_eqb v x d) at h in
          let next : place_of x (v ∷ vs) ≡ suc (place_of x vs) = omega (arith, place-later v x vs d) in
          ap (slice_index (v ∷ vs)) next ∙ read_at_place vs x there)
    ]

-- ---- copies

module _ (t : Tree) (n : ℕ) where
  place_apart : (x y : ℕ) → is_in x (variables t) ≡ true → is_in y (variables t) ≡ true → n + place_of x (variables t) ≡ n + place_of y (variables t) → x ≡ y
  place_apart x y p q e = place_tells (variables t) x y p (omega arith)

  pub variables_of_copy : variables (copy_from t n) ≡ numbers_from n (variable_count t)
  variables_of_copy =
      variables-renamed (λ x. n + place_of x (variables t)) t place_apart ∙ places n (variables t) (distinct_from_distinct [] t tt)

  pub count_of_copy : variable_count (copy_from t n) ≡ variable_count t
  count_of_copy = ap length variables_of_copy ∙ length-numbers_from n (variable_count t)

  pub size_of_copy : (size (copy_from t n) ≡ size t) × (variable_count (copy_from t n) ≡ variable_count t)
  size_of_copy = (size-renamed (λ x. n + place_of x (variables t)) t, count_of_copy)

  listed : (x : ℕ) → occurs x (copy_from t n) ≡ true → is_in x (numbers_from n (variable_count t)) ≡ true
  listed x o = subst (λ vs. is_in x vs ≡ true) variables_of_copy (distinct_covers [] (copy_from t n) x o)

  pub range_of_copy : (x : ℕ) → occurs x (copy_from t n) ≡ true → (n ≤ x) × (x < n + variable_count t)
  range_of_copy x o = in_numbers_from n (variable_count t) x (listed x o)

  back : ℕ → ℕ
  back y = slice_index (variables t) (y - n)

  back_again : (x : ℕ) → occurs x t ≡ true → Variable (back (n + place_of x (variables t))) ≡ Variable x
  unfolding back
  back_again x o =
      let off : n + place_of x (variables t) - n ≡ place_of x (variables t) = omega arith in
      ap Variable (ap (slice_index (variables t)) off ∙ read_at_place (variables t) x (distinct_covers [] t x o))

  pub copy_is_variant : (g : ℕ → ℕ) × (apply (λ x. Variable (g x)) (copy_from t n) ≡ t)
  copy_is_variant =
      (back, apply_apply (λ x. Variable (n + place_of x (variables t))) (λ x. Variable (back x)) t ∙ apply_alone (λ x. Variable (back (n + place_of x (variables t)))) t back_again)

  pub copy_of_numbered : IsNumbered t → copy_from t n ≡ renamed n t
  copy_of_numbered numbered =
      apply_same (λ x. Variable (n + place_of x (variables t))) (λ x. Variable (n + x)) t (λ x o.
      (let h : is_in x (numbers_from 0 (variable_count t)) ≡ true = subst (λ vs. is_in x vs ≡ true) numbered (distinct_covers [] t x o) in
      let p = place_in_numbers 0 (variable_count t) x h in
      let same : place_of x (variables t) ≡ place_of x (numbers_from 0 (variable_count t)) = ap (place_of x) numbered in
      let e : place_of x (variables t) ≡ x = omega arith in
      ap (λ k. Variable (n + k)) e))

  pub variables_of_renamed : variables (renamed n t) ≡ map (λ x. n + x) (variables t)
  variables_of_renamed = variables-renamed (λ x. n + x) t (λ x y p q e. omega arith)

  pub count_of_renamed : variable_count (renamed n t) ≡ variable_count t
  count_of_renamed = ap length variables_of_renamed ∙ length-map (λ x. n + x) (variables t)

  pub size_of_renamed : (size (renamed n t) ≡ size t) × (variable_count (renamed n t) ≡ variable_count t)
  size_of_renamed = (size-renamed (λ x. n + x) t, count_of_renamed)

pub copy_from_zero : (t : Tree) → IsNumbered (copy_from t 0)
copy_from_zero t = variables_of_copy t 0 ∙ ap (numbers_from 0) (sym (count_of_copy t 0))

copied_twice : (t : Tree) (m n x : ℕ) → occurs x t ≡ true → Variable (n + place_of (m + place_of x (variables t)) (variables (copy_from t m))) ≡ Variable (n + place_of x (variables t))
copied_twice t m n x o =
    let p = place_of x (variables t) in
    let there = occurs_in (λ y. Variable (m + place_of y (variables t))) t x (m + p) o (eq-eqb (m + p) (m + p) refl) in
    let e = place_in_numbers m (variable_count t) (m + p) (listed t m (m + p) there) in
    let same : place_of (m + p) (variables (copy_from t m)) ≡ p = ap (place_of (m + p)) (variables_of_copy t m) ∙ omega arith in
    ap (λ k. Variable (n + k)) same

pub copy_of_copy : (t : Tree) (m n : ℕ) → copy_from (copy_from t m) n ≡ copy_from t n
copy_of_copy t m n =
    let first : Subst = λ x. Variable (m + place_of x (variables t)) in
    let second : Subst = λ x. Variable (n + place_of x (variables (copy_from t m))) in
    apply_apply first second t ∙ apply_same (compose first second) (λ x. Variable (n + place_of x (variables t))) t (copied_twice t m n)
