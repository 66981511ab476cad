-- Reading parts for arguments that are left of a compound.
use Rattle.std.proofs.Common.{◌≡◌, ℕ, zero, suc, ◌+◌, ◌-◌, ◌<◌, ◌≤◌, List, [], ◌∷◌, ◌++◌, length, Option, Some, None, slice_get, slice_set, ap, sym, ◌∙◌, subst, arith, append_assoc, append-nil, length-append, length-take-le}
use Rattle.iso_model.specs.Terms.Trees.{Tree, Variable}
use Rattle.iso_store_core.specs.declared.patterns.Part.{Part}
use Rattle.iso_store_core.specs.Arguments.{arguments, argument, listed}
use Rattle.iso_store_core.specs.Presents.{Present, Holds, meaning}
use Rattle.iso_store.specs.declared.reading.Later.{Later}
use Rattle.iso_store.specs.declared.reading.Unread.{Unread}
use Rattle.iso_store.specs.Unifying.{IsCompound}
use Rattle.iso_store.specs.Reading.{HasArguments, first_arguments, left_terms, first_terms, IsRead, IsReadTo, Solves}
use Rattle.iso_store.proofs.ReadingLemmas.{argument-next, arguments-all, compound-arguments}
use Rattle.iso_store.proofs.ReadOn.{read-value}

-- ---- what is left, with one compound more
pub left-push : {W : Type 0} (p : Present W) (us vs : List (Unread W)) (u : Unread W) → vs ≡ us ++ u ∷ [] → left_terms p vs ≡ left_terms p us ++ first_arguments p u.word u.count
left-push {W = W} p us vs u more = ap (left_terms p) more ∙ by us where
  by : (us : List (Unread W)) → left_terms p (us ++ u ∷ []) ≡ left_terms p us ++ first_arguments p u.word u.count
  by [] = append-nil (first_arguments p u.word u.count)
  by (v ∷ us) = ap (λ ts. first_arguments p v.word v.count ++ ts) (by us) ∙ sym (append_assoc (first_arguments p v.word v.count) (left_terms p us) (first_arguments p u.word u.count))

-- all arguments of a compound
pub all-arguments : {W : Type 0} (p : Present W) (w : W) (n : ℕ) → IsCompound n (meaning p w) → first_arguments p w n ≡ listed (arguments (meaning p w))
all-arguments p w n is = arguments-all n n (meaning p w) is (omega arith)

module _ {W : Type 0} (p : Present W) (w : W) (count : ℕ) (is : HasArguments p w count) where
  pub many-first : (k : ℕ) → k ≤ count → length (first_arguments p w k) ≡ k
  many-first k less = let all = ap length (compound-arguments is.arity (meaning p w) is.compound) in length-take-le k (listed (arguments (meaning p w))) (omega (arith, all, is.compound.3, is.within))

  -- one argument more
  pub next-first : (k : ℕ) (t : Tree) → k < count → t ≡ argument k (meaning p w) → first_arguments p w (k + 1) ≡ first_arguments p w k ++ t ∷ []
  next-first k t less here = argument-next k is.arity (meaning p w) t is.compound (omega (arith, is.within)) here

  -- what is left, and the last of so many arguments
  pub last-left : (us vs : List (Unread W)) (k : ℕ) (word : W) → 0 < k → k ≤ count → left_terms p vs ≡ left_terms p us ++ first_arguments p w (k - 1) → meaning p word ≡ argument (k - 1) (meaning p w)
      → left_terms p vs ++ meaning p word ∷ [] ≡ left_terms p us ++ first_arguments p w k
  last-left us vs k word some within left here =
      let one : k - 1 + 1 ≡ k = omega (arith, some) in
      ap (λ ts. ts ++ meaning p word ∷ []) left ∙ append_assoc (left_terms p us) (first_arguments p w (k - 1)) (meaning p word ∷ [])
      ∙ ap (λ ts. left_terms p us ++ ts) (sym (next-first (k - 1) (meaning p word) (omega (arith, some, within)) here)) ∙ ap (λ i. left_terms p us ++ first_arguments p w i) one

-- ---- variables are read for the last arguments
module _ {W : Type 0} (p : Present W) (word : W) (count : ℕ) (names : List (List ℕ)) (ks : List Part) (n past : ℕ) (values : List (Option W)) where
  -- so many of its arguments are left, and so many parts
  abbrev pub ReadFrom : List (Option W) → ℕ → ℕ → Type 0
  ReadFrom news k at = (front : List Tree) (later : List (Later W)) → IsRead p names ks n values later (front ++ first_arguments p word count) past
      → IsReadTo p names ks n values news later later (front ++ first_arguments p word count) (front ++ first_arguments p word k) past at

  pub read-none : ReadFrom values count past
  read-none front later so = record { read = so; ahead = λ next s h. h; back = λ next s h. h }

  module _ (is : HasArguments p word count) (news : List (Option W)) (k at : ℕ) (some : 0 < k) (within : k ≤ count) where
    -- a part is left for an argument
    pub some-parts : (front : List Tree) (later : List (Later W)) → IsRead p names ks n news later (front ++ first_arguments p word k) at → 0 < at
    some-parts front later so = by at (omega (arith, so.many, length-append front (first_arguments p word k), many-first p word count is k within, some)) where
      by : (i : ℕ) → 0 < length (first_terms names ks i) → 0 < i
      by zero h = absurd (omega (arith, h))
      by (suc i) h = omega arith

    pub read-one : (more : List (Option W)) (place : ℕ) (w : W) → 0 < at → Holds p w → meaning p w ≡ argument (k - 1) (meaning p word) → place < length news → slice_get news place ≡ Some None
        → more ≡ slice_set news place (Some w) → first_terms names ks at ≡ first_terms names ks (at - 1) ++ Variable place ∷ [] → ReadFrom news k at → ReadFrom more (k - 1) (at - 1)
    read-one more place w parts held here less none set variable so front later before =
        let to = so front later before in
        let one : k ≡ k - 1 + 1 = omega (arith, some) in
        let split : front ++ first_arguments p word k ≡ (front ++ first_arguments p word (k - 1)) ++ meaning p w ∷ [] =
        ap (λ i. front ++ first_arguments p word i) one ∙ ap (λ ts. front ++ ts) (next-first p word count is (k - 1) (meaning p w) (omega (arith, some, within)) here) ∙ sym (append_assoc front (first_arguments p word (k - 1)) (meaning p w ∷ [])) in
        let step = (read-value p names ks n at parts news more later (front ++ first_arguments p word (k - 1)) w place held less none set variable (subst (λ ts. IsRead p names ks n news later ts at) split to.read)).1 in
        record {
          read = step.read;
          ahead = λ next s h. step.ahead next s (subst (λ ts. Solves p names ks next s news later ts at) split (to.ahead next s h));
          back = λ next s h. to.back next s (subst (λ ts. Solves p names ks next s news later ts at) (sym split) (step.back next s h));
        }

-- ---- what is read next
module _ {W : Type 0} (p : Present W) (names : List (List ℕ)) (ks : List Part) (n past : ℕ) (values : List (Option W)) (left : List Tree) where
  -- only variables were read, and so many parts are left
  abbrev pub ReadOver : List (Option W) → List Tree → ℕ → Type 0
  ReadOver news lefts at = (later : List (Later W)) → IsRead p names ks n values later left past → IsReadTo p names ks n values news later later left lefts past at

  pub over-none : ReadOver values left past
  over-none later so = record { read = so; ahead = λ next s h. h; back = λ next s h. h }

  -- the last of what is left is a compound
  module _ (mid : List (Option W)) (at m count : ℕ) (same : m ≡ n) (word : W) (us vs : List (Unread W)) (popped : vs ≡ us ++ record { word = word; count = count } ∷ []) (so : ReadOver mid (left_terms p vs) at) where
    push : left_terms p vs ≡ left_terms p us ++ first_arguments p word count
    push = left-push p us vs (record { word = word; count = count }) popped

    pub over-left : (later : List (Later W)) → IsRead p names ks n values later left past → IsRead p names ks m mid later (left_terms p us ++ first_arguments p word count) at
    over-left later before =
        subst (λ i. IsRead p names ks i mid later (left_terms p us ++ first_arguments p word count) at) (sym same) (subst (λ ts. IsRead p names ks n mid later ts at) push (so later before).read)

    -- variables were read for it
    module _ (news : List (Option W)) (rest k : ℕ)
        (met : (front : List Tree) (later : List (Later W)) → IsRead p names ks m mid later (front ++ first_arguments p word count) at
        → IsReadTo p names ks m mid news later later (front ++ first_arguments p word count) (front ++ first_arguments p word k) at rest) where
      pub over-variables : ReadOver news (left_terms p us ++ first_arguments p word k) rest
      over-variables later before =
          let to = so later before in
          let on = subst (λ i. IsReadTo p names ks i mid news later later (left_terms p us ++ first_arguments p word count) (left_terms p us ++ first_arguments p word k) at rest) same (met (left_terms p us) later (over-left later before)) in
          record {
            read = on.read;
            ahead = λ next s h. on.ahead next s (subst (λ ts. Solves p names ks next s mid later ts at) push (to.ahead next s h));
            back = λ next s h. to.back next s (subst (λ ts. Solves p names ks next s mid later ts at) (sym push) (on.back next s h));
          }

  -- no argument of it is left
  pub over-compound : (news : List (Option W)) (us : List (Unread W)) (word : W) (rest k : ℕ) → k ≡ 0 → ReadOver news (left_terms p us ++ first_arguments p word k) rest → ReadOver news (left_terms p us) rest
  over-compound news us word rest k none =
      let all : left_terms p us ++ first_arguments p word k ≡ left_terms p us = ap (λ i. left_terms p us ++ first_arguments p word i) none ∙ append-nil (left_terms p us) in
      subst (λ ts. ReadOver news ts rest) all
