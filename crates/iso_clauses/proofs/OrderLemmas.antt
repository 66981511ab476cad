-- Clauses in their order.
use Rattle.std.proofs.Common.{◌≡◌, ◌||◌, ◌&&◌, ◌==◌, ℕ, suc, ◌<◌, Bool, true, false, nat_lt, List, [], ◌∷◌, ◌++◌, map, filter, cond, refl, sym, ap, ◌∙◌, subst, arith, true≢false, ⊎_elim, eq-eqb, lt-ltb, ltb-true, if◌then◌else◌}
use Rattle.std.specs.List.{All, list_any}
use Rattle.std.proofs.lemmas.Bool.{false≢true, and_parts, and_from, false_from_ne_true}
use Rattle.std.proofs.lemmas.Bool.Decides.{eqb_tells}
use Rattle.iso_clauses.specs.Clauses.{Clause}
use Rattle.iso_clauses.specs.Orders.{comes_before, is_before, is_before_all, are_in_order, placed, merged}

-- of two clauses not each comes before the other
pub one_way : (m : ℕ) (a : Bool) (n : ℕ) (b : Bool) → comes_before m a n b ≡ true → comes_before n b m a ≡ false
one_way m true n true h = false_from_ne_true (nat_lt m n) (λ e. (let low = ltb-true n m h in let high = ltb-true m n e in absurd (omega (arith, low, high))))
one_way m true n false h = refl
one_way m false n true h = absurd (false≢true h)
one_way m false n false h = false_from_ne_true (nat_lt n m) (λ e. (let low = ltb-true m n h in let high = ltb-true n m e in absurd (omega (arith, low, high))))

-- a clause comes before each of these
abbrev pub IsBefore : (ℕ → Bool) → ℕ → List ℕ → Type 0
IsBefore front n [] = Unit {0}
IsBefore front n (m ∷ ms) = (is_before front n m ≡ true) × IsBefore front n ms

-- these are in order, each once
abbrev pub AreInOrder : (ℕ → Bool) → List ℕ → Type 0
AreInOrder front [] = Unit {0}
AreInOrder front (n ∷ ns) = IsBefore front n ns × AreInOrder front ns

before_told : (front : ℕ → Bool) (n : ℕ) (ms : List ℕ) → is_before_all front n ms ≡ true → IsBefore front n ms
before_told front n [] h = tt
before_told front n (m ∷ ms) h =
    let both = and_parts (is_before front n m) (is_before_all front n ms) h in
    (both.0, before_told front n ms both.1)

before_tells : (front : ℕ → Bool) (n : ℕ) (ms : List ℕ) → IsBefore front n ms → is_before_all front n ms ≡ true
before_tells front n [] h = refl
before_tells front n (m ∷ ms) h = and_from (is_before front n m) (is_before_all front n ms) h.0 (before_tells front n ms h.1)

pub order_told : (front : ℕ → Bool) (ns : List ℕ) → are_in_order front ns ≡ true → AreInOrder front ns
order_told front [] h = tt
order_told front (n ∷ ns) h =
    let both = and_parts (is_before_all front n ns) (are_in_order front ns) h in
    (before_told front n ns both.0, order_told front ns both.1)

pub order_tells : (front : ℕ → Bool) (ns : List ℕ) → AreInOrder front ns → are_in_order front ns ≡ true
order_tells front [] h = refl
order_tells front (n ∷ ns) h = and_from (is_before_all front n ns) (are_in_order front ns) (before_tells front n ns h.0) (order_tells front ns h.1)

-- those that pass a test are in order
before_filter : (front : ℕ → Bool) (test : ℕ → Bool) (n : ℕ) (ms : List ℕ) → IsBefore front n ms → IsBefore front n (filter test ms)
before_filter front test n [] h = tt
before_filter front test n (m ∷ ms) h = by (test m) (before_filter front test n ms h.1)
  where
    by : (b : Bool) → IsBefore front n (filter test ms) → IsBefore front n (cond b (m ∷ filter test ms) (filter test ms))
    by true rest = (h.0, rest)
    by false rest = rest

pub order_filter : (front : ℕ → Bool) (test : ℕ → Bool) (ns : List ℕ) → AreInOrder front ns → AreInOrder front (filter test ns)
order_filter front test [] h = tt
order_filter front test (n ∷ ns) h = by (test n) (order_filter front test ns h.1)
  where
    by : (b : Bool) → AreInOrder front (filter test ns) → AreInOrder front (cond b (n ∷ filter test ns) (filter test ns))
    by true rest = (before_filter front test n ns h.0, rest)
    by false rest = rest

-- with one more at the front, and at the end
first_before : (front : ℕ → Bool) (n : ℕ) (ms : List ℕ) → front n ≡ true → All (λ m. m < n) ms → IsBefore front n ms
first_before front n [] side below = tt
first_before front n (m ∷ ms) side below = (ap (λ a. comes_before n a m (front m)) side ∙ less (front m), first_before front n ms side (λ k d h. below (suc k) d (omega arith)))
  where
    less : (b : Bool) → comes_before n true m b ≡ true
    less true = lt-ltb m n (below 0 m (omega arith))
    less false = refl

pub order_first : (front : ℕ → Bool) (n : ℕ) (ns : List ℕ) → front n ≡ true → All (λ m. m < n) ns → AreInOrder front ns → AreInOrder front (n ∷ ns)
order_first front n ns side below h = (first_before front n ns side below, h)

before_push : (front : ℕ → Bool) (n m : ℕ) (ms : List ℕ) → is_before front n m ≡ true → IsBefore front n ms → IsBefore front n (ms ++ m ∷ [])
before_push front n m [] e h = (e, tt)
before_push front n m (x ∷ xs) e h = (h.0, before_push front n m xs e h.1)

pub order_last : (front : ℕ → Bool) (n : ℕ) (ns : List ℕ) → front n ≡ false → All (λ m. m < n) ns → AreInOrder front ns → AreInOrder front (ns ++ n ∷ [])
order_last front n [] side below h = (tt, tt)
order_last front n (m ∷ ms) side below h =
    (before_push front m n ms (ap (λ b. comes_before m (front m) n b) side ∙ less (front m)) h.0, order_last front n ms side (λ k d l. below (suc k) d (omega arith)) h.1)
  where
    less : (b : Bool) → comes_before m b n false ≡ true
    less true = refl
    less false = lt-ltb m n (below 0 m (omega arith))

-- it is the sides of these alone that count
before_agree : (f g : ℕ → Bool) (n : ℕ) (ms : List ℕ) → f n ≡ g n → All (λ m. f m ≡ g m) ms → IsBefore f n ms → IsBefore g n ms
before_agree f g n [] here same h = tt
before_agree f g n (m ∷ ms) here same h =
    (ap (λ a. comes_before n a m (g m)) (sym here) ∙ ap (λ b. comes_before n (f n) m b) (sym (same 0 m (omega arith))) ∙ h.0, before_agree f g n ms here (λ k d l. same (suc k) d (omega arith)) h.1)

pub order_agree : (f g : ℕ → Bool) (ns : List ℕ) → All (λ n. f n ≡ g n) ns → AreInOrder f ns → AreInOrder g ns
order_agree f g [] same h = tt
order_agree f g (n ∷ ns) same h =
    (before_agree f g n ns (same 0 n (omega arith)) (λ k d l. same (suc k) d (omega arith)) h.0, order_agree f g ns (λ k d l. same (suc k) d (omega arith)) h.1)

-- whether a number is among these
abbrev pub has : ℕ → List ℕ → Bool
has n ns = list_any (λ m. m == n) ns

pub has_filter : (test : ℕ → Bool) (n : ℕ) (ns : List ℕ) → has n (filter test ns) ≡ (test n && has n ns)
has_filter test n [] = nothing (test n)
  where
    nothing : (b : Bool) → false ≡ (b && false)
    nothing true = refl
    nothing false = refl
has_filter test n (m ∷ ms) =
    ⊎_elim
    (λ e. subst (λ x. has n (cond (test x) (x ∷ filter test ms) (filter test ms)) ≡ (test n && ((x == n) || has n ms))) (sym e.1) (here (test n) (has_filter test n ms)))
    (λ e. other (test m) e.0 (has_filter test n ms) ∙ ap (λ b. test n && (b || has n ms)) (sym e.0))
    (eqb_tells m n)
  where
    itself : (n == n) ≡ true
    itself = eq-eqb n n refl

    here : (b : Bool) → has n (filter test ms) ≡ (b && has n ms) → has n (cond b (n ∷ filter test ms) (filter test ms)) ≡ (b && ((n == n) || has n ms))
    here true e = ap (λ t. t || has n (filter test ms)) itself ∙ sym (ap (λ t. t || has n ms) itself)
    here false e = e

    other : (b : Bool) → (m == n) ≡ false → has n (filter test ms) ≡ (test n && has n ms) → has n (cond b (m ∷ filter test ms) (filter test ms)) ≡ (test n && has n ms)
    other true away e = ap (λ t. t || has n (filter test ms)) away ∙ e
    other false away e = e

-- a number comes before one that is among those behind it
before_has : (front : ℕ → Bool) (n m : ℕ) (ms : List ℕ) → IsBefore front n ms → has m ms ≡ true → is_before front n m ≡ true
before_has front n m [] h among = absurd (true≢false (sym among))
before_has front n m (x ∷ xs) h among =
    ⊎_elim
    (λ e. subst (λ y. is_before front n y ≡ true) e.1 h.0)
    (λ e. before_has front n m xs h.1 (ap (λ b. b || has m xs) (sym e.0) ∙ among))
    (eqb_tells x m)

-- two lists in order with the same numbers are the same
pub same_numbers : (front : ℕ → Bool) (xs ys : List ℕ) → AreInOrder front xs → AreInOrder front ys → ((n : ℕ) → has n xs ≡ has n ys) → xs ≡ ys
same_numbers front [] [] h k same = refl
same_numbers front [] (y ∷ ys) h k same = absurd (true≢false (sym (ap (λ b. b || has y ys) (eq-eqb y y refl)) ∙ sym (same y)))
same_numbers front (x ∷ xs) [] h k same = absurd (true≢false (sym (ap (λ b. b || has x xs) (eq-eqb x x refl)) ∙ same x))
same_numbers front (x ∷ xs) (y ∷ ys) h k same =
    ap (λ n. n ∷ xs) heads ∙ ap (λ ns. y ∷ ns) (same_numbers front xs ys h.1 k.1 tails)
  where
    among_first : has x (x ∷ xs) ≡ true
    among_first = ap (λ b. b || has x xs) (eq-eqb x x refl)

    among_second : has y (y ∷ ys) ≡ true
    among_second = ap (λ b. b || has y ys) (eq-eqb y y refl)

    second_first : (y == x) ≡ false → is_before front y x ≡ true
    second_first e = before_has front y x ys k.0 (ap (λ b. b || has x ys) (sym e) ∙ sym (same x) ∙ among_first)

    first_second : (x == y) ≡ false → is_before front x y ≡ true
    first_second e = before_has front x y xs h.0 (ap (λ b. b || has y xs) (sym e) ∙ same y ∙ among_second)

    heads : x ≡ y
    heads =
        ⊎_elim (λ e. e.1)
        (λ e. ⊎_elim (λ f. sym f.1)
        (λ f. absurd (true≢false (sym (second_first f.0) ∙ one_way x (front x) y (front y) (first_second e.0))))
        (eqb_tells y x))
        (eqb_tells x y)

    -- a number isn't behind itself
    once : (n : ℕ) (ns : List ℕ) → IsBefore front n ns → has n ns ≡ false
    once n ns before =
        false_from_ne_true (has n ns)
        (λ e. (let above = before_has front n n ns before e in true≢false (sym above ∙ one_way n (front n) n (front n) above)))

    tails : (n : ℕ) → has n xs ≡ has n ys
    tails n =
        ⊎_elim
        (λ e. subst (λ m. has m xs ≡ false) e.1 (once x xs h.0) ∙ sym (subst (λ m. has m ys ≡ false) (sym heads ∙ e.1) (once y ys k.0)))
        (λ e. ap (λ b. b || has n xs) (sym e.0) ∙ same n ∙ ap (λ b. b || has n ys) (ap (λ m. m == n) (sym heads) ∙ e.0))
        (eqb_tells x n)

module _ {C : Type 0} where
  abbrev pub numbers : List (Clause C) → List ℕ
  numbers cs = map (λ c. c.number) cs

  merged_end : (front : ℕ → Bool) (xs : List (Clause C)) → merged front xs [] ≡ xs
  merged_end front [] = refl
  merged_end front (x ∷ xs) = refl

  clauses_filter : (front : ℕ → Bool) (p : Clause C → Bool) (n : ℕ) (cs : List (Clause C)) → IsBefore front n (numbers cs) → IsBefore front n (numbers (filter p cs))
  clauses_filter front p n [] h = tt
  clauses_filter front p n (d ∷ ds) h = by (p d) (clauses_filter front p n ds h.1)
    where
      by : (b : Bool) → IsBefore front n (numbers (filter p ds)) → IsBefore front n (numbers (cond b (d ∷ filter p ds) (filter p ds)))
      by true rest = (h.0, rest)
      by false rest = rest

  first_comes : (front : ℕ → Bool) (c : Clause C) (xs ys : List (Clause C)) → IsBefore front c.number (numbers ys) → merged front (c ∷ xs) ys ≡ c ∷ merged front xs ys
  first_comes front c xs [] h = ap (λ zs. c ∷ zs) (sym (merged_end front xs))
  first_comes front c xs (y ∷ ys) h = ap (λ b. if b then c ∷ merged front xs (y ∷ ys) else y ∷ placed front c (merged front xs) (c ∷ xs) ys) h.0

  second_comes : (front : ℕ → Bool) (c : Clause C) (xs ys : List (Clause C)) → IsBefore front c.number (numbers xs) → merged front xs (c ∷ ys) ≡ c ∷ merged front xs ys
  second_comes front c [] ys h = refl
  second_comes front c (x ∷ xs) ys h =
      ap (λ b. if b then x ∷ merged front xs (c ∷ ys) else c ∷ placed front x (merged front xs) (x ∷ xs) ys) (one_way c.number (front c.number) x.number (front x.number) h.0)

  one_merged : (front : ℕ → Bool) (c : Clause C) (xs ys zs : List (Clause C)) (a b : Bool) → (a ≡ true → b ≡ true → ⊥) → IsBefore front c.number (numbers xs) → IsBefore front c.number (numbers ys) → merged front xs ys ≡ zs
      → merged front (cond a (c ∷ xs) xs) (cond b (c ∷ ys) ys) ≡ cond (a || b) (c ∷ zs) zs
  one_merged front c xs ys zs true true apart h k e = absurd (apart refl refl)
  one_merged front c xs ys zs true false apart h k e = first_comes front c xs ys k ∙ ap (λ vs. c ∷ vs) e
  one_merged front c xs ys zs false true apart h k e = second_comes front c xs ys h ∙ ap (λ vs. c ∷ vs) e
  one_merged front c xs ys zs false false apart h k e = e

  -- the clauses of either kind, each once and in order
  pub merged_filters : (front : ℕ → Bool) (p q : Clause C → Bool) (cs : List (Clause C)) → ((c : Clause C) → p c ≡ true → q c ≡ true → ⊥) → AreInOrder front (numbers cs)
      → merged front (filter p cs) (filter q cs) ≡ filter (λ c. p c || q c) cs
  merged_filters front p q [] apart h = refl
  merged_filters front p q (c ∷ cs) apart h =
      one_merged front c (filter p cs) (filter q cs) (filter (λ d. p d || q d) cs) (p c) (q c) (apart c)
      (clauses_filter front p c.number cs h.0) (clauses_filter front q c.number cs h.0) (merged_filters front p q cs apart h.1)
