-- Both ways to say that a term's variables are numbered by first occurrence.
use Rattle.std.proofs.Common.{◌≡◌, ℕ, zero, suc, ◌+◌, ◌<◌, ◌≤◌, [], ◌∷◌, ◌++◌, true, false, Option, Some, None, is_some, refl, ap, ◌∙◌, arith, length, inl, inr, add-zero, add-one, zero-add}
use Rattle.std.specs.Option.{option_and_then}
use Rattle.std.proofs.lemmas.Bool.Decides.{nat_tests}
use Rattle.std.proofs.lemmas.Bool.{cases_eq, cases_lt, eq-eqb, ne_eqb, lt-ltb, le-ltb}
use Rattle.iso_model.specs.Terms.Trees.{Tree, Variable, Integer, Name, Apply, End, More}
use Rattle.iso_model.specs.Terms.Variables.{is_in, distinct_from, variables, variable_count}
use Rattle.iso_model.specs.Terms.Copies.{numbers_from, IsNumbered}
use Rattle.iso_model.specs.Terms.Numbering.{next_number, is_numbered}
use Rattle.iso_model.proofs.OnTerms.CopyLemmas.{length-numbers_from}

number_is_in : (n k v : ℕ) → n ≤ v → v < n + k → is_in v (numbers_from n k) ≡ true
number_is_in n zero v low high = absurd (omega arith)
number_is_in n (suc k) v low high =
    elim (cases_eq n v) [
      | inl e ↦ rw (eq-eqb n v e) refl
      | inr d ↦ rw (ne_eqb n v d) (number_is_in (n + 1) k v (omega arith) (omega arith))
    ]

number_is_out : (n k v : ℕ) → n + k ≤ v → is_in v (numbers_from n k) ≡ false
number_is_out n zero v h = refl
number_is_out n (suc k) v h = grind (arith, nat_tests, number_is_out (n + 1) k v (omega arith))

numbers_from-append : (n k : ℕ) → numbers_from n k ++ (n + k) ∷ [] ≡ numbers_from n (suc k)
numbers_from-append n zero = rw add-zero refl
numbers_from-append n (suc k) =
    let e : n + suc k ≡ n + 1 + k = omega arith in
    rw e (ap (λ ns. n ∷ ns) (numbers_from-append (n + 1) k))

some_same : (a b : ℕ) → Some a ≡ Some b → a ≡ b
some_same a b h = cc

-- a variable behind n others that are 0, 1, .. n - 1
variable_from : (v n m : ℕ) → next_number (Variable v) n ≡ Some m → distinct_from (numbers_from 0 n) (Variable v) ≡ numbers_from 0 m
variable_from v n m h =
    elim (cases_lt v n) [
      | inl low ↦ (let known : Some n ≡ Some m = rw (lt-ltb v n low) at h in
          rw (number_is_in 0 n v (omega arith) (omega arith)) (ap (numbers_from 0) (some_same n m known)))
      | inr high ↦ elim (cases_eq v n) [
        | inl e ↦ (let next : Some (n + 1) ≡ Some m = rw (le-ltb v n high, eq-eqb v n e) at h in
            let more : numbers_from 0 n ++ v ∷ [] ≡ numbers_from 0 (n + 1) = rw (e, add-one) (rw zero-add at (numbers_from-append 0 n)) in
            rw (number_is_out 0 n v (omega arith)) (more ∙ ap (numbers_from 0) (some_same (n + 1) m next)))
        | inr d ↦ (let none : None ≡ Some m = rw (le-ltb v n high, ne_eqb v n d) at h in absurd (cc))
      ]
    ]

-- a term, and then a list of terms
both_from : (t ts : Tree) (n m : ℕ) (o : Option ℕ)
    → ((k : ℕ) → o ≡ Some k → distinct_from (numbers_from 0 n) t ≡ numbers_from 0 k)
    → ((k : ℕ) → next_number ts k ≡ Some m → distinct_from (numbers_from 0 k) ts ≡ numbers_from 0 m)
    → option_and_then (next_number ts) o ≡ Some m → distinct_from (distinct_from (numbers_from 0 n) t) ts ≡ numbers_from 0 m
both_from t ts n m None first others h = absurd (cc)
both_from t ts n m (Some k) first others h = rw (first k refl) (others k h)

-- The variables of a term behind n others that are 0, 1, .. n - 1.
numbered_from : (t : Tree) (n m : ℕ) → next_number t n ≡ Some m → distinct_from (numbers_from 0 n) t ≡ numbers_from 0 m
numbered_from (Variable v) n m h = variable_from v n m h
numbered_from (Integer z) n m h = ap (numbers_from 0) (some_same n m h)
numbered_from (Name a) n m h = ap (numbers_from 0) (some_same n m h)
numbered_from (Apply f ts) n m h = numbered_from ts n m h
numbered_from End n m h = ap (numbers_from 0) (some_same n m h)
numbered_from (More t ts) n m h =
    both_from t ts n m (next_number t n) (λ k e. numbered_from t n k e) (λ k e. numbered_from ts k m e) h

numbered_by : (t : Tree) (o : Option ℕ) → next_number t 0 ≡ o → is_some o ≡ true → IsNumbered t
numbered_by t None e h = absurd (cc)
numbered_by t (Some m) e h =
    let vs : variables t ≡ numbers_from 0 m = numbered_from t 0 m e in
    let count : variable_count t ≡ m = ap length vs ∙ length-numbers_from 0 m in
    rw count vs

pub is_numbered_IsNumbered : (t : Tree) → is_numbered t ≡ true → IsNumbered t
is_numbered_IsNumbered t h = numbered_by t (next_number t 0) refl h
