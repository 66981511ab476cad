-- The first place at which a test passes, and what stands there.
use Rattle.std.proofs.Common.{◌≡◌, ℕ, zero, suc, ◌+◌, ◌<◌, ◌≤◌, Bool, true, false, not, cond, nat_lt, List, [], ◌∷◌, length, map, position, slice_get, get_or, Some, None, refl, sym, ap, ◌∙◌, arith}
use Rattle.std.specs.List.{find, prefix_len, position_or_len}
use Rattle.std.proofs.lemmas.Bool.Decides.{nat_tests}
use Rattle.std.proofs.lemmas.List.{length-map}
use Rattle.std.proofs.lemmas.Option.{same_Some}
use Rattle.std.proofs.lemmas.List.Quantifiers.{position-Some}

module _ {X : Type 0} (test : X → Bool) where
  -- the test passes at the place, and at none before it
  abbrev pub IsFirst : List X → ℕ → Type 0
  IsFirst [] i = ⊥
  IsFirst (x ∷ xs) zero = test x ≡ true
  IsFirst (x ∷ xs) (suc i) = (test x ≡ false) × IsFirst xs i

  by_index : (xs : List X) (i : ℕ) (d : X) → i < length xs → test (get_or xs i d) ≡ true → ((k : ℕ) → k < i → test (get_or xs k d) ≡ false) → IsFirst xs i
  by_index [] i d within here before = omega arith
  by_index (x ∷ xs) zero d within here before = here
  by_index (x ∷ xs) (suc i) d within here before = (before 0 (omega arith), by_index xs i d (omega arith) here (λ k h. before (suc k) (omega arith)))

  -- what `position` gives
  pub IsFirst-position : (xs : List X) (i : ℕ) → position test xs ≡ Some i → IsFirst xs i
  IsFirst-position [] i h = let none : None ≡ Some i = h in cc
  IsFirst-position (x ∷ xs) i h =
      let at = position-Some test (x ∷ xs) i x h in
      by_index (x ∷ xs) i x at.0 at.1 at.2

  -- where there is no first place, nothing is found
  past_end : (xs : List X) → length xs ≤ position_or_len test xs → find test xs ≡ None
  past_end [] h = refl
  past_end (x ∷ xs) h = by (test x) refl (past_end xs)
    where
      by : (b : Bool) → test x ≡ b → (length xs ≤ position_or_len test xs → find test xs ≡ None) → find test (x ∷ xs) ≡ None
      by true e rest =
          let none : position_or_len test (x ∷ xs) ≡ 0 = ap (λ b. cond (not b) (1 + position_or_len test xs) 0) e in
          absurd (omega arith)
      by false e rest =
          let more : position_or_len test (x ∷ xs) ≡ 1 + position_or_len test xs = ap (λ b. cond (not b) (1 + position_or_len test xs) 0) e in
          ap (λ b. cond b (Some x) (find test xs)) e ∙ rest (omega arith)

  pub find-position_none : (xs : List X) → position test xs ≡ None → find test xs ≡ None
  find-position_none xs h = past_end xs (at_end (position_or_len test xs) (length xs) h)
    where
      at_end : (n m : ℕ) → cond (nat_lt n m) (Some n) None ≡ None → m ≤ n
      at_end n m h = grind (arith, nat_tests)

  -- what stands at the place is what `find` gives
  pub find-at : (xs : List X) (i : ℕ) → IsFirst xs i → find test xs ≡ slice_get xs i
  find-at [] i h = absurd h
  find-at (x ∷ xs) zero h = ap (λ b. cond b (Some x) (find test xs)) h
  find-at (x ∷ xs) (suc i) h = ap (λ b. cond b (Some x) (find test xs)) h.0 ∙ find-at xs i h.1

  pub IsFirst-within : (xs : List X) (i : ℕ) → IsFirst xs i → i < length xs
  IsFirst-within [] i h = absurd h
  IsFirst-within (x ∷ xs) zero h = omega arith
  IsFirst-within (x ∷ xs) (suc i) h = omega (arith, IsFirst-within xs i h.1)

  -- what stands there passes
  pub IsFirst-passes : (xs : List X) (i : ℕ) (x : X) → IsFirst xs i → slice_get xs i ≡ Some x → test x ≡ true
  IsFirst-passes [] i x h at = absurd h
  IsFirst-passes (y ∷ ys) zero x h at = ap test (sym (same_Some y x at)) ∙ h
  IsFirst-passes (y ∷ ys) (suc i) x h at = IsFirst-passes ys i x h.1 at

prefix_len-map : {X Y : Type 0} (f : X → Y) (test : Y → Bool) (xs : List X) → prefix_len test (map f xs) ≡ prefix_len (λ x. test (f x)) xs
prefix_len-map f test [] = refl
prefix_len-map f test (x ∷ xs) = ap (λ n. cond (test (f x)) (1 + n) 0) (prefix_len-map f test xs)

-- the first place of the images is that of what they are made of
pub position-map : {X Y : Type 0} (f : X → Y) (test : Y → Bool) (xs : List X) → position test (map f xs) ≡ position (λ x. test (f x)) xs
position-map f test xs = rw (prefix_len-map f (λ y. not (test y)) xs, length-map) refl
