-- Values: terms that a substitution leaves as they are, and their parts.
use Rattle.std.proofs.Common.{◌≡◌, ℕ, zero, suc, List, [], ◌∷◌, ◌++◌, map, Bool, true, false, Less, Equal, Greater, refl, sym, ap, ap₂, ◌∙◌, if◌then◌else◌}
use Rattle.std.specs.Str.{bytes_eq}
use Rattle.iso_model.specs.Terms.Trees.{Tree, Variable, Integer, Name, Apply, End, More, row}
use Rattle.iso_model.specs.Terms.Variables.{is_in, distinct_from, variables}
use Rattle.std.specs.declared.cmp.Ordering.{Ordering}
use Rattle.iso_model.specs.Terms.Sorting.{by_order, inserted, in_order}
use Rattle.iso_model.specs.Terms.Lists.{dot, list_of, elements}
use Rattle.iso_model.specs.Terms.Substitutions.{Subst, apply, compose}
use Rattle.iso_model.specs.Terms.Arguments.{arguments, member, argument, others, joined, with_arguments, listed}
use Rattle.iso_model.specs.Terms.Unifiers.{Unifier}
use Rattle.iso_model.specs.Terms.Unification.Applied.{apply_apply, apply_same}
use Rattle.iso_model.specs.Search.RunLaws.Sameness.{IsValue, IsTwice}

pub value_is : (r : Subst) (t : Tree) → IsTwice r → IsValue r (apply r t)
value_is r t twice = apply_apply r r t ∙ apply_same (compose r r) r t (λ n o. twice n)

-- what a unifier of values makes of a substitution
pub twice_on : (r u : Subst) (a b : Tree) → IsTwice r → IsValue r a → IsValue r b → Unifier a b u → IsTwice (compose r u)
twice_on r u a b twice first second h n =
    let v = compose r u in
    let left : apply v a ≡ apply u a = sym (apply_apply r u a) ∙ ap (apply u) first in
    let right : apply v b ≡ apply u b = sym (apply_apply r u b) ∙ ap (apply u) second in
    let equal : apply v a ≡ apply v b = left ∙ h.equal ∙ sym right in
    let goes_on = h.most_general v equal in
    apply_apply u v (r n) ∙ apply_same (compose u v) v (r n) (λ m o. goes_on m) ∙ sym (apply_apply r u (r n)) ∙ ap (apply u) (twice n)

-- ---- parts of values

pub member_value : (r : Subst) (i : ℕ) (t : Tree) → IsValue r t → IsValue r (member i t)
member_value r zero (More t ts) h = cc
member_value r (suc i) (More t ts) h = member_value r i ts (cc)
member_value r zero (Variable n) h = refl
member_value r zero (Integer z) h = refl
member_value r zero (Name a) h = refl
member_value r zero (Apply f ts) h = refl
member_value r zero End h = refl
member_value r (suc i) (Variable n) h = refl
member_value r (suc i) (Integer z) h = refl
member_value r (suc i) (Name a) h = refl
member_value r (suc i) (Apply f ts) h = refl
member_value r (suc i) End h = refl

pub arguments_value : (r : Subst) (t : Tree) → IsValue r t → IsValue r (arguments t)
arguments_value r (Apply f ts) h = cc
arguments_value r (Variable n) h = refl
arguments_value r (Integer z) h = refl
arguments_value r (Name a) h = refl
arguments_value r End h = refl
arguments_value r (More t ts) h = refl

pub argument_value : (r : Subst) (i : ℕ) (t : Tree) → IsValue r t → IsValue r (argument i t)
argument_value r i t h = member_value r i (arguments t) (arguments_value r t h)

pub others_value : (r : Subst) (t : Tree) → IsValue r t → IsValue r (others t)
others_value r (More t ts) h = cc
others_value r (Variable n) h = refl
others_value r (Integer z) h = refl
others_value r (Name a) h = refl
others_value r (Apply f ts) h = refl
others_value r End h = refl

joined_value : (r : Subst) (t u : Tree) → IsValue r t → IsValue r u → IsValue r (joined t u)
joined_value r (More t ts) u h k =
    let first : apply r t ≡ t = cc in
    let behind : apply r ts ≡ ts = cc in
    ap₂ More first (joined_value r ts u behind k)
joined_value r (Variable n) u h k = k
joined_value r (Integer z) u h k = k
joined_value r (Name a) u h k = k
joined_value r (Apply f ts) u h k = k
joined_value r End u h k = k

-- with arguments that are no end
more_value : (r : Subst) (t u us : Tree) → IsValue r t → IsValue r (More u us) → IsValue r (with_arguments t (More u us))
more_value r (Name a) u us h k = ap (Apply a) k
more_value r (Apply f ts) u us h k = let inner : apply r ts ≡ ts = cc in ap (Apply f) (joined_value r ts (More u us) inner k)
more_value r (Variable n) u us h k = h
more_value r (Integer z) u us h k = h
more_value r End u us h k = h
more_value r (More t ts) u us h k = h

-- with any arguments
pub with_value : (r : Subst) (t us : Tree) → IsValue r t → IsValue r us → IsValue r (with_arguments t us)
with_value r t (More u us) h k = more_value r t u us h k
with_value r t End h k = h
with_value r t (Variable n) h k = bare_value t h where
  bare_value : (t : Tree) → IsValue r t → IsValue r (with_arguments t (Variable n))
  bare_value (Name a) h = ap (Apply a) k
  bare_value (Apply f ts) h = let inner : apply r ts ≡ ts = cc in ap (Apply f) (joined_value r ts (Variable n) inner k)
  bare_value (Variable m) h = h
  bare_value (Integer z) h = h
  bare_value End h = h
  bare_value (More t ts) h = h
with_value r t (Integer z) h k = bare_value t h where
  bare_value : (t : Tree) → IsValue r t → IsValue r (with_arguments t (Integer z))
  bare_value (Name a) h = refl
  bare_value (Apply f ts) h = let inner : apply r ts ≡ ts = cc in ap (Apply f) (joined_value r ts (Integer z) inner refl)
  bare_value (Variable m) h = h
  bare_value (Integer m) h = h
  bare_value End h = h
  bare_value (More t ts) h = h
with_value r t (Name b) h k = bare_value t h where
  bare_value : (t : Tree) → IsValue r t → IsValue r (with_arguments t (Name b))
  bare_value (Name a) h = refl
  bare_value (Apply f ts) h = let inner : apply r ts ≡ ts = cc in ap (Apply f) (joined_value r ts (Name b) inner refl)
  bare_value (Variable m) h = h
  bare_value (Integer m) h = h
  bare_value End h = h
  bare_value (More t ts) h = h
with_value r t (Apply g us) h k = bare_value t h where
  bare_value : (t : Tree) → IsValue r t → IsValue r (with_arguments t (Apply g us))
  bare_value (Name a) h = ap (Apply a) k
  bare_value (Apply f ts) h = let inner : apply r ts ≡ ts = cc in ap (Apply f) (joined_value r ts (Apply g us) inner k)
  bare_value (Variable m) h = h
  bare_value (Integer m) h = h
  bare_value End h = h
  bare_value (More t ts) h = h

-- ---- lists of values

abbrev pub AreValues : Subst → List Tree → Type 0
AreValues r [] = Unit {0}
AreValues r (t ∷ ts) = IsValue r t × AreValues r ts

pub row_value : (r : Subst) (ts : List Tree) → AreValues r ts → IsValue r (row ts)
row_value r [] own = refl
row_value r (t ∷ ts) own = ap₂ More own.0 (row_value r ts own.1)

pub list_value : (r : Subst) (ts : List Tree) → AreValues r ts → IsValue r (list_of ts)
list_value r [] own = refl
list_value r (t ∷ ts) own = ap₂ (λ x y. Apply dot (More x (More y End))) own.0 (list_value r ts own.1)

pub listed_values : (r : Subst) (t : Tree) → IsValue r t → AreValues r (listed t)
listed_values r (More t ts) h =
    let first : apply r t ≡ t = cc in
    let behind : apply r ts ≡ ts = cc in
    (first, listed_values r ts behind)
listed_values r (Variable n) h = tt
listed_values r (Integer z) h = tt
listed_values r (Name a) h = tt
listed_values r (Apply f ts) h = tt
listed_values r End h = tt

pub elements_values : (r : Subst) (t : Tree) → IsValue r t → AreValues r (elements t)
elements_values r (Apply f (More t (More ts End))) h =
    let first : apply r t ≡ t = cc in
    let behind : apply r ts ≡ ts = cc in
    elim (bytes_eq f dot) as (λ x. AreValues r (if x then t ∷ elements ts else [])) [
      | true ↦ (first, elements_values r ts behind)
      | false ↦ tt
    ]
elements_values r (Variable n) h = tt
elements_values r (Integer z) h = tt
elements_values r (Name a) h = tt
elements_values r End h = tt
elements_values r (More t ts) h = tt
elements_values r (Apply f End) h = tt
elements_values r (Apply f (Variable n)) h = tt
elements_values r (Apply f (Integer z)) h = tt
elements_values r (Apply f (Name a)) h = tt
elements_values r (Apply f (Apply g ts)) h = tt
elements_values r (Apply f (More a End)) h = tt
elements_values r (Apply f (More a (Variable n))) h = tt
elements_values r (Apply f (More a (Integer z))) h = tt
elements_values r (Apply f (More a (Name b))) h = tt
elements_values r (Apply f (More a (Apply g ts))) h = tt
elements_values r (Apply f (More a (More b (Variable n)))) h = tt
elements_values r (Apply f (More a (More b (Integer z)))) h = tt
elements_values r (Apply f (More a (More b (Name c)))) h = tt
elements_values r (Apply f (More a (More b (Apply g ts)))) h = tt
elements_values r (Apply f (More a (More b (More c ts)))) h = tt

values_pushed : (r : Subst) (seen : List ℕ) (n : ℕ) → AreValues r (map Variable seen) → r n ≡ Variable n → AreValues r (map Variable (seen ++ n ∷ []))
values_pushed r [] n own h = (h, tt)
values_pushed r (m ∷ ms) n own h = (own.0, values_pushed r ms n own.1 h)

distinct_values : (r : Subst) (seen : List ℕ) (t : Tree) → AreValues r (map Variable seen) → IsValue r t → AreValues r (map Variable (distinct_from seen t))
distinct_values r seen (Variable n) own h = elim (is_in n seen) as (λ x. AreValues r (map Variable (if x then seen else seen ++ n ∷ []))) [
  | true ↦ own
  | false ↦ values_pushed r seen n own h
]
distinct_values r seen (Integer z) own h = own
distinct_values r seen (Name a) own h = own
distinct_values r seen (Apply f ts) own h = let inner : apply r ts ≡ ts = cc in distinct_values r seen ts own inner
distinct_values r seen End own h = own
distinct_values r seen (More t ts) own h =
    let first : apply r t ≡ t = cc in
    let behind : apply r ts ≡ ts = cc in
    distinct_values r (distinct_from seen t) ts (distinct_values r seen t own first) behind

pub variables_values : (r : Subst) (t : Tree) → IsValue r t → AreValues r (map Variable (variables t))
variables_values r t h = distinct_values r [] t tt h

inserted_values : (r : Subst) (merges : Bool) (cmp : Tree → Tree → Ordering) (t : Tree) (ts : List Tree) → IsValue r t → AreValues r ts → AreValues r (inserted merges cmp t ts)
inserted_values r merges cmp t [] own others = (own, tt)
inserted_values r merges cmp t (u ∷ us) own others =
    elim (cmp t u) as (λ o. AreValues r (by_order o (t ∷ u ∷ us) (if merges then t ∷ us else t ∷ u ∷ us) (u ∷ inserted merges cmp t us))) [
      | Less ↦ (own, others)
      | Equal ↦ elim merges as (λ x. AreValues r (if x then t ∷ us else t ∷ u ∷ us)) [
        | true ↦ (own, others.1)
        | false ↦ (own, others)
      ]
      | Greater ↦ (others.0, inserted_values r merges cmp t us own others.1)
    ]

pub ordered_values : (r : Subst) (merges : Bool) (cmp : Tree → Tree → Ordering) (ts : List Tree) → AreValues r ts → AreValues r (in_order merges cmp ts)
ordered_values r merges cmp [] own = tt
ordered_values r merges cmp (t ∷ ts) own = inserted_values r merges cmp t (in_order merges cmp ts) own.0 (ordered_values r merges cmp ts own.1)
