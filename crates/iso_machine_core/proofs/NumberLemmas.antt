-- The variables of a clause's head are numbered by first occurrence.
use Rattle.std.proofs.Common.{◌<◌, true, ◌≡◌, ◌+◌, ◌++◌, ℕ, zero, suc, List, [], ◌∷◌, length, Option, Some, None, inl, inr, refl, sym, ap, ap₂, subst, ◌∙◌, arith, append_assoc, codes}
use Rattle.std.specs.Option.{option_and_then}
use Rattle.std.specs.Str.{bytes_eq}
use Rattle.std.proofs.lemmas.Bool.{false≢true, cases_Bool, or_left, eq-eqb, le-ltb, lt-ltb}
use Rattle.std.proofs.lemmas.List.{append-nil}
use Rattle.iso_model.specs.Terms.Trees.{Tree, Variable, Integer, Name, Apply, End, More}
use Rattle.iso_model.specs.Terms.Variables.{occurs, is_in, distinct_from, variable_count}
use Rattle.iso_model.specs.Terms.Copies.{copy_from, numbers_from}
use Rattle.iso_model.specs.Terms.Numbering.{next_number}
use Rattle.iso_model.specs.Search.Additions.{head_of}
use Rattle.iso_model.proofs.OnTerms.CopyLemmas.{variables_of_copy, range_of_copy, in_numbers_from, length-numbers_from}
use Rattle.iso_alloc.specs.Plans.{arguments_of}

-- the variables that were seen come first
extends : (seen : List ℕ) (t : Tree) → (more : List ℕ) × (distinct_from seen t ≡ seen ++ more)
extends seen (Variable n) = elim (cases_Bool (is_in n seen)) [
  | inl here ↦ ([], rw here (sym (append-nil seen)))
  | inr none ↦ (n ∷ [], rw none refl)
]
extends seen (Integer z) = ([], sym (append-nil seen))
extends seen (Name a) = ([], sym (append-nil seen))
extends seen (Apply f ts) = extends seen ts
extends seen End = ([], sym (append-nil seen))
extends seen (More t ts) =
    let first = extends seen t in
    let rest = extends (distinct_from seen t) ts in
    (first.0 ++ rest.0, rest.1 ∙ ap (λ vs. vs ++ rest.0) first.1 ∙ append_assoc seen first.0 rest.0)

-- the first ones of numbers are numbers
numbers_first : (i m : ℕ) (xs ys : List ℕ) → xs ++ ys ≡ numbers_from i m → xs ≡ numbers_from i (length xs)
numbers_first i m [] ys h = refl
numbers_first i zero (x ∷ xs) ys h = absurd (cc)
numbers_first i (suc m) (x ∷ xs) ys h =
    let here : x ≡ i = cc in
    let rest : xs ++ ys ≡ numbers_from (i + 1) m = cc in
    ap₂ (λ z zs. z ∷ zs) here (numbers_first (i + 1) m xs ys rest)

-- the last one of them
numbers_last : (i n m v : ℕ) → numbers_from i n ++ v ∷ [] ≡ numbers_from i m → (v ≡ i + n) × (m ≡ n + 1)
numbers_last i zero zero v h = absurd (cc)
numbers_last i zero (suc zero) v h = (let here : v ≡ i = cc in (omega (arith, here), refl))
numbers_last i zero (suc (suc m)) v h = absurd (cc)
numbers_last i (suc n) zero v h = absurd (cc)
numbers_last i (suc n) (suc m) v h =
    let rest : numbers_from (i + 1) n ++ v ∷ [] ≡ numbers_from (i + 1) m = cc in
    let found = numbers_last (i + 1) n m v rest in
    (omega (arith, found.0), omega (arith, found.1))

as_many : (n m : ℕ) → numbers_from 0 n ≡ numbers_from 0 m → n ≡ m
as_many n m h = sym (length-numbers_from 0 n) ∙ ap length h ∙ length-numbers_from 0 m

-- Where the variables behind n others are 0, 1, .. m - 1, the next number is m.
next_is : (t : Tree) (n m : ℕ) → distinct_from (numbers_from 0 n) t ≡ numbers_from 0 m → next_number t n ≡ Some m
next_is (Variable v) n m h = elim (cases_Bool (is_in v (numbers_from 0 n))) [
  | inl here ↦ (let same : numbers_from 0 n ≡ numbers_from 0 m = rw here at h in
      let low = in_numbers_from 0 n v here in
      rw (lt-ltb v n (omega (arith, low.1))) (ap Some (as_many n m same)))
  | inr none ↦ (let more : numbers_from 0 n ++ v ∷ [] ≡ numbers_from 0 m = rw none at h in
      let last = numbers_last 0 n m v more in
      let is : v ≡ n = omega (arith, last.0) in
      rw (le-ltb v n (omega (arith, is)), eq-eqb v n is) (ap Some (sym last.1)))
]
next_is (Integer z) n m h = ap Some (as_many n m h)
next_is (Name a) n m h = ap Some (as_many n m h)
next_is (Apply f ts) n m h = next_is ts n m h
next_is End n m h = ap Some (as_many n m h)
next_is (More t ts) n m h =
    let seen = distinct_from (numbers_from 0 n) t in
    let rest = extends seen ts in
    let before : distinct_from (numbers_from 0 n) t ≡ numbers_from 0 (length seen) = numbers_first 0 m seen rest.0 (sym rest.1 ∙ h) in
    let first = next_is t n (length seen) before in
    rw first (next_is ts (length seen) m (subst (λ vs. distinct_from vs ts ≡ numbers_from 0 m) before h))

-- there is a next number behind the term, where 0 is the one before it
abbrev pub HasNext : Tree → Type 0
HasNext t = (next : ℕ) × (next_number t 0 ≡ Some next)

copy_next : (t : Tree) → HasNext (copy_from t 0)
copy_next t = (variable_count t, next_is (copy_from t 0) 0 (variable_count t) (variables_of_copy t 0))

first_next : (ts : Tree) (m : ℕ) (o : Option ℕ) → option_and_then (next_number ts) o ≡ Some m → (next : ℕ) × (o ≡ Some next)
first_next ts m None h = absurd (cc)
first_next ts m (Some k) h = (k, refl)

of_head : (t : Tree) → HasNext t → HasNext (head_of t)
of_head (Apply f (More h (More b End))) is = elim (cases_Bool (bytes_eq f (codes ":-"))) [
  | inl rule ↦ rw rule (first_next (More b End) is.0 (next_number h 0) is.1)
  | inr fact ↦ rw fact is
]
of_head (Apply f (More h (More b (Variable x)))) is = is
of_head (Apply f (More h (More b (Integer z)))) is = is
of_head (Apply f (More h (More b (Name a)))) is = is
of_head (Apply f (More h (More b (Apply g ts)))) is = is
of_head (Apply f (More h (More b (More c ts)))) is = is
of_head (Apply f (More h (Variable x))) is = is
of_head (Apply f (More h (Integer z))) is = is
of_head (Apply f (More h (Name a))) is = is
of_head (Apply f (More h (Apply g ts))) is = is
of_head (Apply f (More h End)) is = is
of_head (Apply f (Variable x)) is = is
of_head (Apply f (Integer z)) is = is
of_head (Apply f (Name a)) is = is
of_head (Apply f (Apply g ts)) is = is
of_head (Apply f End) is = is
of_head (Variable x) is = is
of_head (Integer z) is = is
of_head (Name a) is = is
of_head End is = is
of_head (More t ts) is = is

of_arguments : (t : Tree) → HasNext t → HasNext (arguments_of (Some t))
of_arguments (Apply f ts) is = is
of_arguments (Variable x) is = (0, refl)
of_arguments (Integer z) is = (0, refl)
of_arguments (Name a) is = (0, refl)
of_arguments End is = (0, refl)
of_arguments (More t ts) is = (0, refl)

-- The arguments of the head that a clause is prepared with.
pub head_numbered : (t : Tree) → HasNext (arguments_of (Some (head_of (copy_from t 0))))
head_numbered t = of_arguments (head_of (copy_from t 0)) (of_head (copy_from t 0) (copy_next t))

-- ---- the variables of a head are among those of its clause

head_occurs : (t : Tree) (x : ℕ) → occurs x (head_of t) ≡ true → occurs x t ≡ true
head_occurs (Apply f (More h (More b End))) x is = elim (cases_Bool (bytes_eq f (codes ":-"))) [
  | inl rule ↦ (let here : occurs x h ≡ true = rw rule at is in or_left (occurs x h) (occurs x (More b End)) here)
  | inr fact ↦ (let here : occurs x (More h (More b End)) ≡ true = rw fact at is in here)
]
head_occurs (Apply f (More h (More b (Variable y)))) x is = is
head_occurs (Apply f (More h (More b (Integer z)))) x is = is
head_occurs (Apply f (More h (More b (Name a)))) x is = is
head_occurs (Apply f (More h (More b (Apply g ts)))) x is = is
head_occurs (Apply f (More h (More b (More c ts)))) x is = is
head_occurs (Apply f (More h (Variable y))) x is = is
head_occurs (Apply f (More h (Integer z))) x is = is
head_occurs (Apply f (More h (Name a))) x is = is
head_occurs (Apply f (More h (Apply g ts))) x is = is
head_occurs (Apply f (More h End)) x is = is
head_occurs (Apply f (Variable y)) x is = is
head_occurs (Apply f (Integer z)) x is = is
head_occurs (Apply f (Name a)) x is = is
head_occurs (Apply f (Apply g ts)) x is = is
head_occurs (Apply f End) x is = is
head_occurs (Variable y) x is = is
head_occurs (Integer z) x is = is
head_occurs (Name a) x is = is
head_occurs End x is = is
head_occurs (More t ts) x is = is

-- the variables of the arguments of a head are among its own
pub argument_occurs : (t : Tree) (x : ℕ) → occurs x (arguments_of (Some t)) ≡ true → occurs x t ≡ true
argument_occurs (Apply f ts) x is = is
argument_occurs (Variable y) x is = absurd (false≢true is)
argument_occurs (Integer z) x is = absurd (false≢true is)
argument_occurs (Name a) x is = absurd (false≢true is)
argument_occurs End x is = absurd (false≢true is)
argument_occurs (More t ts) x is = absurd (false≢true is)

-- Those of the head that a clause is prepared with are among as many as the clause has.
pub head_within : (t : Tree) (x : ℕ) → occurs x (arguments_of (Some (head_of (copy_from t 0)))) ≡ true → x < variable_count t
head_within t x is =
    let range = range_of_copy t 0 x (head_occurs (copy_from t 0) x (argument_occurs (head_of (copy_from t 0)) x is)) in
    omega (arith, range.1)
